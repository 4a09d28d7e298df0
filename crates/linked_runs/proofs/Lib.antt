pub mod OnSide
pub mod Storable
pub mod Paired
