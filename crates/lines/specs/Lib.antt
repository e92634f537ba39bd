pub mod Places
pub mod Lines
pub mod Good
pub mod Parts
pub mod Readings
pub mod Heads
pub mod Writings
