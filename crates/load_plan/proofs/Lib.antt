pub mod LoadLaws
pub mod ModeLaws
pub mod RaiseLaws
pub mod OwnLaws
