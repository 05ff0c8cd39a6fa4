pub mod Reading
pub mod Books
pub mod Letter
pub mod Words
pub mod Writing
