pub mod Walks
pub mod Outcomes
pub mod Answers
pub mod Grays
