pub mod Answers
pub mod Rights
pub mod Hits
pub mod Last
