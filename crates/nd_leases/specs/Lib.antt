pub mod Rows
pub mod Tickets
pub mod Tables
pub mod Whole
pub mod RowKept
