pub mod Books
pub mod Questions
pub mod Order
pub mod Judged
