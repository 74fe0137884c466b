pub mod Tables
pub mod Closures
pub mod Sets
pub mod Info
pub mod Lines
pub mod Names
