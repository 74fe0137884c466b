pub mod Statuses
pub mod Looked
pub mod Files
