pub mod Memory
pub mod Settling
pub mod Tables
pub mod Junctions
pub mod Later
