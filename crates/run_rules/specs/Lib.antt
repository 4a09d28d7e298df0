pub mod Steps
pub mod Structure
pub mod Good
pub mod Laws
