pub mod Agreeing
pub mod Steady
pub mod Standing
pub mod StackLaws
