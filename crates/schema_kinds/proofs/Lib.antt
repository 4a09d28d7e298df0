pub mod Closure
pub mod Hierarchies
pub mod Ranks
pub mod GlobalLaws
pub mod SameKeys
pub mod FieldLaws
