pub mod Tables
pub mod Leading
