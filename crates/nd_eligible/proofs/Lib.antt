pub mod Classed
pub mod Places
pub mod Subsets
