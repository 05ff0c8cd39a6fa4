pub mod Judging
pub mod Tallies
pub mod Answers
