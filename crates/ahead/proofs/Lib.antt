pub mod Fits
pub mod Turns
pub mod Runs
pub mod Guesses
pub mod Quarters
