pub mod Sextets
pub mod Parts
pub mod Calls
pub mod Proved
pub mod Spelling
