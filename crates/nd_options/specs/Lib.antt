pub mod Failures
pub mod Options
