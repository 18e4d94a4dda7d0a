pub mod ByText
pub mod Proved
