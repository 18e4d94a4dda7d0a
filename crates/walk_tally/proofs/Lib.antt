pub mod Numbers
pub mod Proved
pub mod Runs
