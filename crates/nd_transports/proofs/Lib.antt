pub mod Calling
pub mod Telling
