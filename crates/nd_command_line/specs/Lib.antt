pub mod Bundles
pub mod Named
