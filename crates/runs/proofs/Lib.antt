pub mod Following
mod Tables
mod Phases
mod Unaccepted
mod Unchanged
mod Changed
mod Entered
mod Struck
mod Standing
mod Passing
mod Driven
pub mod Kept
mod DeterminedTrains
mod DeterminedCalls
pub mod Determined
