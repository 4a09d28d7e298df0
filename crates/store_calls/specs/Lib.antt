pub mod Calls
pub mod Plans
pub mod Walks
pub mod WalkPlan
