pub mod Undisturbed
pub mod Shown
