pub mod Refusals
pub mod Prefixes
pub mod Limits
pub mod Written
pub mod Stages
pub mod Faults
pub mod Judged
