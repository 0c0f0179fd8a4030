pub mod Drawn
pub mod Sheets
