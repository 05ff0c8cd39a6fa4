pub mod Head
pub mod Reports
