-- Definitions for the private parts alone.
pub mod Opening
pub mod Threads
