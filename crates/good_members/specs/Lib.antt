pub mod Memories
pub mod Laws
