pub mod TurnRules
pub mod WalkRules
pub mod UnitRules
pub mod ProcessRules
pub mod AskedRules
