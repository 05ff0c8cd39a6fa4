pub mod Digits
pub mod Filling
pub mod Lengths
pub mod Whole
pub mod AllExamples
pub mod Offers
