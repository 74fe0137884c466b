pub mod EndFacts
pub mod RowFacts
pub mod WordFacts
