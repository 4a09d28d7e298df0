pub mod FitLaws
pub mod KeptLaws
pub mod RecordLaws
pub mod Moves
pub mod Keeping
