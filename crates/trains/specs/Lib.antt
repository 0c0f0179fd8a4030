pub mod Braking
pub mod Start
pub mod Latest
pub mod Late
pub mod Prompt
pub mod Either
