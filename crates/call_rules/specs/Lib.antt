pub mod Settings
pub mod Schemas
pub mod BankNames
