pub mod Decimal
pub mod Lines
pub mod Forms
pub mod Writing
pub mod Listing
pub mod Examples
