pub mod Sheets
pub mod Examples
pub mod Table
