mod Joins
mod Meaning
