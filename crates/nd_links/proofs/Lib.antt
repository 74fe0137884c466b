pub mod Gathered
pub mod Linked
pub mod Numbering
pub mod Placing
pub mod Pooled
pub mod Taken
pub mod Zipped
