pub mod Choose
pub mod Cuts
pub mod Counts
pub mod Damage
