pub mod Layout
pub mod Memory
pub mod Places
pub mod Rows
pub mod Shelves
