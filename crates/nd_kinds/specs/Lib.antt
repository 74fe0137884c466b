pub mod Kinds
pub mod KindsKept
pub mod Sharing
