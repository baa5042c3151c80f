pub mod Identifiers
pub mod Dumps
pub mod Readers
pub mod Claims
