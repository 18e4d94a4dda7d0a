pub mod Opened
pub mod Signatures
pub mod Proved
pub mod IndexedCalls
