pub mod Maps
pub mod Contents
pub mod ContentsCode
pub mod Below
pub mod Places
pub mod FirstStep
pub mod Run
