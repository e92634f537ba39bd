pub mod Ranges
pub mod Laws
pub mod Meet
pub mod Searches
