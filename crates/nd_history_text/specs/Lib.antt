pub mod HistoryTexts
pub mod Lines
pub mod Rows
pub mod Reading
pub mod Sound
pub mod TextLaws
pub mod Names
