pub mod Stacks
pub mod Left
pub mod Laws
