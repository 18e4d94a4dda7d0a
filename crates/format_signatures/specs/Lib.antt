pub mod Signatures
pub mod Calls
