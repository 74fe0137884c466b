pub mod WholeLines
pub mod BegunLines
pub mod JournalTexts
pub mod JournalLaws
