pub mod Admitting
pub mod Followed
pub mod Inner
pub mod Moves
pub mod Refusals
pub mod States
pub mod Worlds
pub mod Names
