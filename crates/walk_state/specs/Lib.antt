pub mod Moving
pub mod Walking
pub mod Lent
