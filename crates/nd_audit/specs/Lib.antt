pub mod Ahead
pub mod Judging
