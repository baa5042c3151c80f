pub mod Texts
pub mod Listing
