pub mod Standing
pub mod Booked
