pub mod Turns
pub mod Seen
pub mod Right
