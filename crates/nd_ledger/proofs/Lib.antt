pub mod Admitting
pub mod Followed
pub mod Keeping
pub mod Tickets
