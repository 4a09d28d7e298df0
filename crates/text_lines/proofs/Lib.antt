pub mod CutLaws
pub mod ReadingLaws
