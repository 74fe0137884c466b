pub mod LineStarts
pub mod LinesKept
pub mod Reading
pub mod OneAnswer
pub mod Looked
