pub mod Order
pub mod Listed
pub mod Walks
pub mod States
