pub mod Courses
pub mod Tallies
pub mod Neighbours
pub mod Priorities
pub mod GivenReleases
pub mod Judgements
pub mod InStep
pub mod Comparing
