pub mod Sums
mod Lines
mod Keeps
