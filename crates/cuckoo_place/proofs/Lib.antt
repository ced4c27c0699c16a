pub mod Distinct
pub mod Hall
pub mod Chains
pub mod Gathered
pub mod Choices
pub mod Lowered
