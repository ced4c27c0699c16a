pub mod Encryptions
pub mod EncryptedLists
pub mod Evaluations
pub mod Keys
pub mod ShortOpenings
