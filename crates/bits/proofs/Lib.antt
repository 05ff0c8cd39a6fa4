pub mod Bits
pub mod Lowest
