pub mod Units
pub mod Horner
pub mod Factors
pub mod Products
