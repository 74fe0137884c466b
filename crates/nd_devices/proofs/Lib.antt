pub mod Pieces
pub mod Sent
