pub mod Journeys
pub mod Safety
pub mod Driving
