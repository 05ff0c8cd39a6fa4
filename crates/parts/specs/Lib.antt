pub mod Exact
pub mod Meant
pub mod Promised
