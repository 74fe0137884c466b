pub mod Stored
pub mod Listing
pub mod Counting
pub mod Scribing
