pub mod Serving
pub mod Books
pub mod Rounds
