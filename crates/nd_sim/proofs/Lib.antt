pub mod Tickets
pub mod Recording
pub mod Simulating
pub mod OneStep
pub mod OneAnswer
pub mod OneRun
pub mod Named
