pub mod Drawings
pub mod Targets
pub mod Finding
pub mod Passing
pub mod Asking
pub mod WorkingOut
pub mod Examining
pub mod WorkedOut
