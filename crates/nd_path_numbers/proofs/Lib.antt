pub mod Holding
pub mod Growing
pub mod Searched
pub mod Marking
pub mod Matching
