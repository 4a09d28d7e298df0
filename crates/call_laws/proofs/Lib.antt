pub mod Growth
pub mod ReachLaws
pub mod BelowLaws
