pub mod Sheets
pub mod Changes
pub mod Faults
pub mod Reads
pub mod Ways
pub mod States
pub mod Promises
pub mod Judging
