pub mod AllKinds
pub mod TokenLaws
