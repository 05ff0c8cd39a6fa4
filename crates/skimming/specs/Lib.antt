pub mod Look
pub mod Infos
pub mod Ready
