pub mod Numbers
pub mod Held
pub mod Marks
pub mod Searches
