pub mod Regions
pub mod Spots
pub mod Endings
pub mod Classes
pub mod Layout
pub mod Reads
pub mod Passing
