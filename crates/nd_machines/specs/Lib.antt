pub mod Insertion
pub mod FeatureSets
pub mod Builders
pub mod Fields
pub mod BuildersList
pub mod Adding
pub mod Entries
pub mod Names
