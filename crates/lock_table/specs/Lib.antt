pub mod Holds
pub mod Conflict
pub mod Calls
pub mod Holders
pub mod Table
pub mod Against
