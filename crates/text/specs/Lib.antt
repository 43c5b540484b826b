pub mod Answers
pub mod Keys
