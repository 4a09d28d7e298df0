pub mod BranchTurns
pub mod CallTurns
pub mod CommandReading
pub mod CommandTurns
pub mod LineTurns
pub mod ListTurns
pub mod ScriptLaw
