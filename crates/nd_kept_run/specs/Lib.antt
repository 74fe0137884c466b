pub mod Reported
pub mod Audited
pub mod Verdicts
pub mod KeptRuns
