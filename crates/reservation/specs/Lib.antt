pub mod Requests
pub mod Cells
pub mod Entries
pub mod Footprints
pub mod Made
pub mod Meetings
