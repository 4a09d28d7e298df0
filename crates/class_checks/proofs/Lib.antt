pub mod PartLinks
