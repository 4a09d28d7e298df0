pub mod Reasons
pub mod Climbing
