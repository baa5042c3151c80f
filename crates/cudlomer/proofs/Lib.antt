pub mod Negation
pub mod Bounding
pub mod Blocking
pub mod Admitting
pub mod Ticking
pub mod Running
pub mod Comparing
