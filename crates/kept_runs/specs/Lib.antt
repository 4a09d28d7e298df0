pub mod Kept
pub mod GoodObjects
pub mod Laws
