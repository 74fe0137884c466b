pub mod Opened
pub mod Scripts
pub mod Simulated
pub mod Audited
