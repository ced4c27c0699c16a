pub mod Cacheable
pub mod Bins
pub mod Values
pub mod Writing
pub mod Cells
pub mod Pushing
