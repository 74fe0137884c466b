pub mod Members
pub mod Additions
pub mod Searches
pub mod Words
pub mod Texts
pub mod Once
pub mod SameLines
