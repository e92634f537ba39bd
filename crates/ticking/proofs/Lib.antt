pub mod Posts
pub mod Ahead
pub mod Course
