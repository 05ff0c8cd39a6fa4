pub mod Cells
pub mod Right
