pub mod MergeLaws
pub mod KeyLaws
pub mod MarkerLaws
pub mod DamageLaws
pub mod RecordLaws
