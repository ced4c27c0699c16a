pub mod Ciphertexts
pub mod Queries
pub mod Replies
pub mod Laws
pub mod ShortNumbers
