pub mod Waiting
pub mod Layout
pub mod Reads
pub mod Kept
pub mod Held
