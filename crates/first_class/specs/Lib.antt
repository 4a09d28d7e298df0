pub mod Names
pub mod TextClasses
