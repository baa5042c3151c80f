pub mod Places
pub mod States
pub mod Rooms
pub mod Written
pub mod Blocks
pub mod RoundTrip
pub mod Claims
