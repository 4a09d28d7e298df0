pub mod EntryLaws
pub mod ImageLaws
pub mod TurnLaws
