pub mod Methods
pub mod Objects
pub mod Process
pub mod Samples
pub mod Fuel
