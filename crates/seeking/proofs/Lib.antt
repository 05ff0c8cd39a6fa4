pub mod Seeking
pub mod Found
pub mod Agree
pub mod Laid
pub mod Foreseen
