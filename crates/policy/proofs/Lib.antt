pub mod Once
pub mod Layers
