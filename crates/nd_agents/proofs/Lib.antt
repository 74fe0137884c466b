pub mod Relays
pub mod Once
pub mod Asking
pub mod Hearings
pub mod Lives
pub mod Rightly
