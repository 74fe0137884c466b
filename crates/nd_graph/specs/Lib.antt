pub mod Graphs
pub mod Names
pub mod Orders
pub mod Placing
pub mod Walks
