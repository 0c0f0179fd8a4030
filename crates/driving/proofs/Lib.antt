mod Decided
mod Places
mod Riding
pub mod Ways
mod Tellings
mod Steps
