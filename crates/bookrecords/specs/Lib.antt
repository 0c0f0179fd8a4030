pub mod Records
pub mod Decoding
pub mod Reading
pub mod Files
