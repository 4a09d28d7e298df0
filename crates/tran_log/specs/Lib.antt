pub mod Levels
pub mod Ends
pub mod Kept
