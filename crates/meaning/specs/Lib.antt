pub mod Books
pub mod Matching
pub mod Reports
pub mod Automaton
pub mod Windows
pub mod Calls
pub mod Rows
