pub mod SpotLists
pub mod Gathering
pub mod FactLemmas
