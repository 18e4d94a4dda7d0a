pub mod Deck
pub mod Calls
