pub mod Rows
pub mod Records
pub mod States
pub mod Standing
pub mod Delays
pub mod Hearing
