pub mod OneKept
pub mod Calls
pub mod Steps
