pub mod Finding
pub mod Pieces
pub mod Residues
pub mod Spellings
pub mod ReadBack
pub mod QueryBodies
pub mod ReplyBodies
pub mod Apart
