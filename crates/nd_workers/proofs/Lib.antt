pub mod Compared
pub mod Faulted
pub mod Manned
pub mod Stints
pub mod Zips
