pub mod CallTexts
pub mod AnswerTexts
pub mod Relayed
pub mod Rightly
pub mod Heard
pub mod Wires
pub mod Agents
pub mod Spoken
