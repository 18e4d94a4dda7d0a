pub mod Asked
pub mod Value
