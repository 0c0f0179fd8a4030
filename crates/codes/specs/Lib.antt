pub mod Speeds
pub mod Refusals
pub mod Gradients
