pub mod Roots
pub mod Calls
pub mod Horner
