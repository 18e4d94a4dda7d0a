pub mod Found
pub mod Version
