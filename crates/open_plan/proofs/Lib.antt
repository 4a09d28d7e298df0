pub mod EditsOf
pub mod SlotsOf
pub mod LiveLaws
pub mod MadeOf
pub mod OpenLaws
