pub mod Rows
pub mod Reading
pub mod Claims
