pub mod Sampled
pub mod FuelLaws
