pub mod Views
pub mod Rows
pub mod Answers
pub mod Layers
pub mod Calls
