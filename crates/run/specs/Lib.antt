pub mod Worlds
pub mod Tables
pub mod Manager
pub mod Ticks
pub mod Calls
