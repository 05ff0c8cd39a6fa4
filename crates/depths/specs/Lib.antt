pub mod Depths
pub mod Right
