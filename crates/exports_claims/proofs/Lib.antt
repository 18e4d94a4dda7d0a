pub mod Told
pub mod Numbers
pub mod Lent
pub mod Proved
pub mod Comparison
