pub mod Words
pub mod Calls
pub mod Lines
pub mod Verbs
pub mod Script
pub mod Rules
pub mod Stand
pub mod Faults
