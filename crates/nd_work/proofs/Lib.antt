pub mod Going
pub mod Unkept
