pub mod Wordings
pub mod Answers
