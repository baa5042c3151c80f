pub mod RowTexts
pub mod Fits
pub mod NamedTexts
