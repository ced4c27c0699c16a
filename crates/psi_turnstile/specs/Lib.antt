pub mod Counting
pub mod Knowing
pub mod Rule
pub mod Telling
