pub mod Turns
pub mod Words
pub mod Linked
pub mod Filled
pub mod Downward
pub mod Pieces
