pub mod Copies
pub mod Made
pub mod Sums
pub mod Holding
pub mod Making
