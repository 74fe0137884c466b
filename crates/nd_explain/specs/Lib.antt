pub mod Parts
pub mod Pieces
pub mod Excerpts
pub mod AdviceWords
pub mod Shown
pub mod Hearing
