pub mod AtWork
pub mod Faults
pub mod Runs
pub mod Served
