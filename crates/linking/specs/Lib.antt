pub mod Failures
pub mod Keywords
pub mod Filled
