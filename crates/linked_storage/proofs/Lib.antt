pub mod MemberLaws
pub mod KindLaws
pub mod NameLaws
pub mod RingLaws
pub mod EntryLaws
pub mod ClassLaws
