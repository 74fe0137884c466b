pub mod Members
pub mod Layers
pub mod Words
pub mod Keeping
pub mod Ends
