pub mod Somes
pub mod Digits
pub mod Fitting
pub mod Joins
pub mod Sweeps
pub mod Rows
pub mod Known
pub mod Same
