pub mod Found
pub mod Apart
pub mod Origins
pub mod Distinct
