pub mod Turns
pub mod Deep
pub mod Gains
pub mod Right
