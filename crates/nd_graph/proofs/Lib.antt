pub mod Distinct
pub mod Numbers
pub mod Rows
pub mod Searching
pub mod Walked
