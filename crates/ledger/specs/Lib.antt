pub mod Standings
pub mod Entries
