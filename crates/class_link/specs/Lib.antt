pub mod Refusal
pub mod Passes
pub mod Linking
