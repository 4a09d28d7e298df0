pub mod Works
pub mod Passes
