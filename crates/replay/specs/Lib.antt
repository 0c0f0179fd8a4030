pub mod Meaning
pub mod Replays
