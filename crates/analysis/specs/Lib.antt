pub mod Algorithms
pub mod Answers
