pub mod Moved
pub mod Lists
pub mod Places
pub mod Owns
pub mod Works
pub mod Vacant
pub mod Facts
pub mod Sampled
