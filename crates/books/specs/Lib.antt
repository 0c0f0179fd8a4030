pub mod Printed
pub mod BookTables
pub mod PrintedLaws
pub mod Lent
pub mod FileBooks
