pub mod Dividing
pub mod Restoring
pub mod SignedKeys
pub mod ShortPhases
pub mod ReplyOpenings
pub mod ShortPlaintexts
