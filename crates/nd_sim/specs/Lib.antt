pub mod Answers
pub mod Outcomes
pub mod Runs
pub mod RunParts
pub mod Written
pub mod OneText
