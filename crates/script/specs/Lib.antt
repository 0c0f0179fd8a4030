pub mod Kinds
pub mod Orders
