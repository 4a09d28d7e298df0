pub mod PartLaws
pub mod ContentLaws
pub mod FindLaws
