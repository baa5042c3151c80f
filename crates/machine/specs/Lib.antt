pub mod Order
pub mod Ticks
pub mod Events
pub mod Legs
pub mod Runs
pub mod Claims
