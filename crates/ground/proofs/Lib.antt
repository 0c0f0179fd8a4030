mod Covered
mod Reduced
pub mod Bounds
mod Metres
pub mod Laws
pub mod Changes
pub mod InUse
