pub mod Prefixes
pub mod Books
pub mod BookCalls
pub mod Trying
pub mod Going
mod Samples
