pub mod Operands
pub mod Lists
pub mod Texts
pub mod Once
