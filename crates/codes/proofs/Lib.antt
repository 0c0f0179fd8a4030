pub mod Firsts
pub mod Edges
pub mod Numbered
