pub mod Numbers
pub mod Zeros
