pub mod Within
pub mod Taken
pub mod BookWithin
