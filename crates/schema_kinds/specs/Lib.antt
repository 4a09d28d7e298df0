pub mod Links
pub mod Hierarchy
pub mod Classes
pub mod OwnGlobals
pub mod Schemas
pub mod Worlds
pub mod KeyLaws
pub mod SameFields
