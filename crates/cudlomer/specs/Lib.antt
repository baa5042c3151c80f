pub mod Codes
pub mod Tables
pub mod Sets
pub mod Recordings
