pub mod Faults
pub mod Entering
