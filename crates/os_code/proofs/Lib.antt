pub mod Sizes
pub mod Same
pub mod Simulation
pub mod Lengths
