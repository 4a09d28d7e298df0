pub mod Dead
pub mod Keeping
pub mod PartsKept
pub mod SetsKept
pub mod SidesKept
pub mod MadeKept
pub mod WritesKept
