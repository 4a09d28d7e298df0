pub mod Sampled
pub mod Meters
pub mod Balances
pub mod ExprBalances
pub mod ScriptBalances
