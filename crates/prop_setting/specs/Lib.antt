pub mod Elements
pub mod Sets
pub mod Fits
pub mod Standings
pub mod Lists
pub mod Arrays
