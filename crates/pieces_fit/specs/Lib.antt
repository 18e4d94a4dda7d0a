pub mod Sound
pub mod Fit
