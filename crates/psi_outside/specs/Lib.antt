pub mod Causes
pub mod Streams
pub mod Reading
pub mod Names
pub mod Plans
pub mod InMemory
pub mod Adapters
pub mod Ends
