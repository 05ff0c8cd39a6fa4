pub mod Head
pub mod Reports
pub mod Byte
