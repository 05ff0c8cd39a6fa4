pub mod Few
pub mod Turn
pub mod Turns
pub mod Letter
pub mod Listed
