pub mod Tabled
pub mod RowFacts
