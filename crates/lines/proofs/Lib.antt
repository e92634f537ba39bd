pub mod Steps
pub mod Verdicts
pub mod Spells
pub mod Laws
