pub mod Columns
pub mod Cursors
pub mod Ahead
