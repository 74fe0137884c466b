pub mod Abandoned
pub mod Jobs
pub mod Judgements
pub mod Leaves
pub mod Picks
pub mod Steps
pub mod Written
