pub mod Grouping
pub mod Numbers
pub mod Examples
