pub mod Plays
pub mod Processes
