pub mod Filled
pub mod Right
pub mod Progress
