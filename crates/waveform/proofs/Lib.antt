pub mod Spans
pub mod Dumping
pub mod Answered
