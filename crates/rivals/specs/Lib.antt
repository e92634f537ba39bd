pub mod Rivals
pub mod Screening
