pub mod Xor
pub mod Lowest
pub mod Finds
pub mod Rings
pub mod Takes
