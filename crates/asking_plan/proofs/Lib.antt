pub mod AskedLaws
mod IdLaws
