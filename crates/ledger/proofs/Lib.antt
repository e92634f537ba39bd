pub mod Requests
pub mod Firsts
pub mod Kept
pub mod Soonest
pub mod Places
pub mod Bounds
pub mod Each
