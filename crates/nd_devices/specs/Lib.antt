pub mod Device
pub mod Sending
pub mod Watched
pub mod Written
