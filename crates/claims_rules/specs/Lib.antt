pub mod Order
pub mod Conditions
