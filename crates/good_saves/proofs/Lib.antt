pub mod Writes
pub mod Draws
pub mod Looks
pub mod Targets
pub mod Commits
pub mod Saves
pub mod Good
