mod Rulings
mod Passes
mod Journeys
mod Ends
