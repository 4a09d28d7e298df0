pub mod LevelLaws
pub mod StackLaws
pub mod OwedLaws
