pub mod Quick
pub mod Foreseen
