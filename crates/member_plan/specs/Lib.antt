pub mod Members
pub mod Nexts
