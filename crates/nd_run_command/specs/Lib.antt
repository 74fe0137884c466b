pub mod Given
pub mod Seats
pub mod Ended
pub mod Ran
