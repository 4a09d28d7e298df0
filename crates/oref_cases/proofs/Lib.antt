pub mod ParkedLaws
pub mod PlaceLaws
