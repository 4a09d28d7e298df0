pub mod OrderedLaws
pub mod ChangeLaws
pub mod RowLaws
pub mod EntryLaws
pub mod ApartLaws
pub mod OwnerLaws
