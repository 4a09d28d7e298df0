pub mod Parked
pub mod Collections
