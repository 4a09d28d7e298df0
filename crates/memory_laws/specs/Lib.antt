pub mod Kept
pub mod Sets
pub mod Made
pub mod Writes
