pub mod Answers
pub mod Passes
pub mod Build
