pub mod Loads
pub mod Raises
pub mod Own
