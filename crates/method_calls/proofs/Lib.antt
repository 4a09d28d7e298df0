pub mod Binding
pub mod Finding
pub mod Naming
