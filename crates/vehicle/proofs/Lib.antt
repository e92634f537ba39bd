pub mod Parts
pub mod Steps
pub mod Reaches
pub mod Cells
pub mod Hearing
