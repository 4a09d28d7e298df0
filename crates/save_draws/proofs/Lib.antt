pub mod KeyLaws
pub mod DrawLaws
