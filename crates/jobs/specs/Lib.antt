pub mod Limits
pub mod Refusals
pub mod Displays
pub mod Jobs
pub mod Checks
pub mod Joins
pub mod Accepted
pub mod Claims
