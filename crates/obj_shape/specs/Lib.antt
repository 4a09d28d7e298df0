pub mod Elements
pub mod Wholeness
pub mod Fitting
pub mod Records
pub mod Slots
