pub mod Entering
pub mod Warming
pub mod EntryFronts
