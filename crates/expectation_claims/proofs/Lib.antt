pub mod Own
pub mod Sections
pub mod Malformed
pub mod Proved
pub mod Answers
pub mod Passed
