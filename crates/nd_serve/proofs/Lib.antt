pub mod JobLines
pub mod JobRows
pub mod Prepares
pub mod Told
pub mod Serving
pub mod SessionRuns
