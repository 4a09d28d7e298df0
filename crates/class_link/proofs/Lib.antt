pub mod FirstReason
pub mod Groups
pub mod Preparing
