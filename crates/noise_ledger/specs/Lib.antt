pub mod Ledgers
pub mod Verdicts
