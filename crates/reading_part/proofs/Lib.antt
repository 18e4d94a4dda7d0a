pub mod Laws
pub mod Bounds
pub mod Texts
pub mod Answers
