pub mod Looks
pub mod Eights
pub mod Skimmed
