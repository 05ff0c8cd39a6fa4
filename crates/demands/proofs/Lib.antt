pub mod Tables
pub mod Feeds
pub mod Demands
