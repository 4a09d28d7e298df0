pub mod StartLaws
pub mod MarksSampled
