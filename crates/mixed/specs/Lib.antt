pub mod Json
pub mod Mixed
pub mod Deck
