pub mod Laws
pub mod Transforms
pub mod Butterflies
pub mod Plans
