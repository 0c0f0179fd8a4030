pub mod Decodes
pub mod Gives
pub mod Unique
