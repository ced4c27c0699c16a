pub mod FirstFit
pub mod RootChanges
pub mod BinChanges
pub mod Planes
pub mod Steps
pub mod EmptyBundle
