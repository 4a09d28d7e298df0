pub mod SubLaws
pub mod NextLaws
