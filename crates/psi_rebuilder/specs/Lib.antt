pub mod Building
pub mod Outcomes
