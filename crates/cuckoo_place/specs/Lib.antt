pub mod Placements
pub mod Searches
