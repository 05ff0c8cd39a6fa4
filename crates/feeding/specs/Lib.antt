pub mod Taken
pub mod Blocks
pub mod Ready
pub mod Rule
pub mod Right
