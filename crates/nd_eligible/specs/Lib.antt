pub mod Attributes
pub mod Eligibility
pub mod Settings
pub mod Classing
