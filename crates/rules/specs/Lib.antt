pub mod Tracks
pub mod Rules
pub mod Rows
pub mod Readings
pub mod Searching
pub mod Braked
pub mod Limits
pub mod Found
