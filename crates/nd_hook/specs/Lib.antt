pub mod Decisions
pub mod Few
pub mod Idle
pub mod Replies
pub mod ReplyText
pub mod SameAnswers
