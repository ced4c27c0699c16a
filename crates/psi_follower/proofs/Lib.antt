pub mod Taken
pub mod Segments
pub mod Turning
pub mod Telling
pub mod Warmed
pub mod EntryLaws
pub mod EntryFronts
pub mod EntryLists
