pub mod HoldOrder
pub mod HoldLaws
pub mod KeptLaws
mod CallLaws
pub mod FirstLaws
mod RowLaws
mod Found
mod TurnLaws
mod AgainstLaws
mod TableLaws
