pub mod Fronts
pub mod Values
pub mod ByteWords
