pub mod Placements
pub mod Queries
pub mod Openings
pub mod Findings
pub mod Faults
pub mod Laws
pub mod Works
