pub mod BigBytes
pub mod PositionLaws
