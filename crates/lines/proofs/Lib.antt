pub mod Found
pub mod Ends
pub mod Written
pub mod Last
pub mod Codes
pub mod Texts
pub mod Once
