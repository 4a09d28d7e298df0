mod MovedLaws
mod WorkLaws
pub mod StepLaws
