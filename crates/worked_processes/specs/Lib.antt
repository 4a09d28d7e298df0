pub mod Bank
pub mod Loading
pub mod Saving
pub mod Again
pub mod Within
pub mod Dangling
pub mod Sides
pub mod Ring
