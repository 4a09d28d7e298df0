pub mod Keys
pub mod Rows
pub mod Damage
pub mod Steps
pub mod Answers
pub mod Stored
pub mod Laws
