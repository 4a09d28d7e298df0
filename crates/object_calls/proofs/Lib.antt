pub mod Lists
pub mod EditLaws
pub mod LoadsSampled
pub mod DeletesSampled
pub mod SavesSampled
