pub mod Neighbours
pub mod Places
pub mod Fits
pub mod Agrees
