pub mod Turns
pub mod Right
pub mod Laid
pub mod Kept
