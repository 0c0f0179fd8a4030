pub mod Grading
pub mod Kinds
pub mod Ground
pub mod Steps
pub mod StretchLaws
pub mod Tables
pub mod BothKinds
pub mod Ranked
