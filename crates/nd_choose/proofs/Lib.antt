pub mod Ordered
pub mod Choosing
pub mod OneChoice
