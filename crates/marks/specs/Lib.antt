pub mod Ones
pub mod Rows
pub mod Marked
