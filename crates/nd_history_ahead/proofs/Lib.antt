pub mod Joined
pub mod Refusing
