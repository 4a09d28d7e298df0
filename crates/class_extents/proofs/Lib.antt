pub mod BookLaws
pub mod ChainSteps
