mod Bytes
pub mod Positions
pub mod Higher
pub mod Grounds
mod Settles
mod Stopped
mod Beside
mod Stages
mod Looks
mod Broken
mod Refused
pub mod Verdicts
mod Lacks
mod Exits
pub mod Single
pub mod SingleRefusals
