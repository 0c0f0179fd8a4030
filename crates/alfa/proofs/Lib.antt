mod Searches
mod Tests
mod Solving
mod Rows
mod Solved
