pub mod Views
pub mod Rules
pub mod Seats
pub mod Sent
pub mod Numbered
