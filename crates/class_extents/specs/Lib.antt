pub mod Extents
pub mod Books
