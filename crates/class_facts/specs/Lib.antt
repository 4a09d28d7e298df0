pub mod Spots
pub mod Trees
pub mod Types
pub mod Sorts
pub mod Numbers
pub mod Gathered
pub mod Facts
pub mod Words
