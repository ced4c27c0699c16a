pub mod Histories
pub mod Acts
pub mod Turns
pub mod Tries
