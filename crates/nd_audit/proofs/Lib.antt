pub mod Clearing
pub mod Judged
