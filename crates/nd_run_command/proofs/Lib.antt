pub mod Endings
pub mod Giving
pub mod Manned
pub mod Seated
