pub mod Fits
pub mod Comparisons
