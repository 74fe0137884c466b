pub mod Notes
pub mod Hearing
pub mod Handing
pub mod Names
