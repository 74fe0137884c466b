pub mod Rows
pub mod Admitting
pub mod Admissions
pub mod Ending
