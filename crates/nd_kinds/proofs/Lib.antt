pub mod Needs
pub mod KindFacts
