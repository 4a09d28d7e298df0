pub mod Phrases
pub mod Classes
pub mod Files
