pub mod Answers
pub mod Passing
pub mod Exact
pub mod Meant
pub mod Promised
pub mod Letters
