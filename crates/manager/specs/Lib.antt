pub mod Judging
pub mod Once
