pub mod Descent
pub mod UpToTop
pub mod Lowest
pub mod Limited
pub mod Moved
mod Reading
pub mod FirstRule
