pub mod Faults
pub mod Entering
pub mod Shuffles
