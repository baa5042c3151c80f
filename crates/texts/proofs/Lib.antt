pub mod Copying
pub mod WordDigits
pub mod Wholes
pub mod TextAnswers
pub mod RefusedText
pub mod Lines
pub mod Numbers
pub mod Trying
