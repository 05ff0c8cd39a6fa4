pub mod Glide
pub mod Going
