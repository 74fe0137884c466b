pub mod Reports
pub mod Audits
pub mod Names
