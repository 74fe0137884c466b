pub mod Commanded
pub mod Answering
pub mod Accepting
pub mod Beside
