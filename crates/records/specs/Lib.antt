pub mod Refusals
pub mod Kinds
pub mod Records
pub mod Readers
pub mod Prefixes
