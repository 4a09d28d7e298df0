pub mod Idle
pub mod Cuts
pub mod Tries
pub mod Loads
pub mod Walks
pub mod Rested
