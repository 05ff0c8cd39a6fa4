pub mod Marked
pub mod Ordered
pub mod Reported
