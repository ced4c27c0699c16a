pub mod Caches
pub mod Columns
pub mod Queries
