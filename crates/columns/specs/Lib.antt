pub mod Columns
pub mod Right
