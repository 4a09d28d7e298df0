pub mod Locks
pub mod NoMembers
pub mod Deletes
pub mod Good
