pub mod Sets
pub mod Added
