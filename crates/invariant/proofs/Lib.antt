pub mod Inv
pub mod Local
pub mod Clear
pub mod States
pub mod Turns
pub mod Steps
pub mod Whole
pub mod Deliver
