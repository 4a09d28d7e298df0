pub mod ReadingLaws
pub mod StoredLaws
pub mod ShownLaws
