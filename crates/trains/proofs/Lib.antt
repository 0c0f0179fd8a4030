pub mod Rising
mod Highest
mod FirstMetre
