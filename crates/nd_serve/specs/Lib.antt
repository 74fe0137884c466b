pub mod Asked
pub mod Turns
pub mod Sessions
pub mod Steps
pub mod SessionLaws
