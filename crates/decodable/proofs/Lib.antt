pub mod Law
pub mod Indexed
pub mod Examples
pub mod Primitives
pub mod Proved
pub mod Ours
pub mod Answers
