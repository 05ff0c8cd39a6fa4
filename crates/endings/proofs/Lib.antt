pub mod Turns
pub mod Views
pub mod Own
pub mod KeywordStates
pub mod OwnPass
pub mod InheritPass
pub mod LinkPass
pub mod Right
