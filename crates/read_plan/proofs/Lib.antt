pub mod CallLaws
pub mod WalkLaws
pub mod ReadLaws
