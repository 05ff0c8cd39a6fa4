pub mod Cases
pub mod Bytes
pub mod Orders
pub mod Parts
pub mod Numbers
pub mod Zeros
