pub mod Holding
pub mod Painting
pub mod Tables
