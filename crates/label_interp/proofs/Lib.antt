pub mod Forms
pub mod Unique
pub mod Lagrange
pub mod Interpolating
