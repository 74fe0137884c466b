pub mod Beginnings
pub mod Entering
pub mod Parts
pub mod Taken
