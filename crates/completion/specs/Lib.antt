pub mod Delays
pub mod Answers
pub mod Claims
