pub mod Plain
pub mod Opened
pub mod Levels
pub mod Tables
pub mod Runs
pub mod Units
pub mod Nesting
