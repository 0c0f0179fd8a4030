pub mod Rulings
pub mod Values
pub mod Fit
