pub mod ChangeLaws
pub mod PlayedLaws
