pub mod Seats
pub mod Receipts
pub mod Blocks
pub mod Tasks
