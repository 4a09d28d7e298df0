pub mod Calls
pub mod Marks
pub mod Running
pub mod Process
