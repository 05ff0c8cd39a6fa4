pub mod Keywords
pub mod Onward
pub mod Turns
pub mod Filled
