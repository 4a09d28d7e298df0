pub mod MadeLaws
pub mod SumLaws
pub mod HoldLaws
pub mod CopyLaws
pub mod NamedLaws
pub mod NewLaws
pub mod FitCopies
pub mod MakeCopies
