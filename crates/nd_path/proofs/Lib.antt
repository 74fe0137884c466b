pub mod Searches
pub mod Digits
pub mod Parts
pub mod Spelling
pub mod Rising
pub mod Fronts
