pub mod Opens
pub mod Lists
pub mod Shown
pub mod Meant
pub mod Readied
pub mod Once
