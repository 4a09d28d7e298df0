pub mod Calls
pub mod Ends
pub mod Stood
pub mod ListMembers
pub mod ArrayMembers
pub mod ManyMembers
pub mod Whole
