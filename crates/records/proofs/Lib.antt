pub mod Names
pub mod Bytes
pub mod Fields
pub mod Standing
pub mod Common
pub mod Shared
pub mod Walk
