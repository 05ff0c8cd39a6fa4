pub mod Stretches
pub mod Progress
pub mod Entries
pub mod Turns
pub mod Survey
pub mod Meant
