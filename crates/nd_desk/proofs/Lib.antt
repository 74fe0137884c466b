pub mod Noting
pub mod Lines
