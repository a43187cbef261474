pub mod Outcomes
pub mod Rows
pub mod Answers
