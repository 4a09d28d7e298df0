pub mod RoomLaws
pub mod ShareLaws
pub mod RowLaws
pub mod MarkerLaws
pub mod StepLaws
