pub mod Algorithms
pub mod Meeting
pub mod Differences
pub mod Slacks
pub mod Joining
