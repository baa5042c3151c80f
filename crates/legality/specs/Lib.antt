pub mod Recorded
pub mod Legality
pub mod Procedure
pub mod Differences
pub mod Claims
