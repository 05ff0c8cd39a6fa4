pub mod Steps
pub mod Held
