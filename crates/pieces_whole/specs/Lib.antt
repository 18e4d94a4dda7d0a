pub mod Run
pub mod Item
pub mod Remainder
pub mod Whole
