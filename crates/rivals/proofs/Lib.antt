pub mod Search
pub mod Verdicts
pub mod Screens
