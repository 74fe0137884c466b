mod Keeping
pub mod Once
pub mod Rising
mod Sayings
mod Strings
