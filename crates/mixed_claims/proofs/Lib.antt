pub mod Kinded
pub mod Ties
pub mod Ratio
pub mod Room
pub mod Proved
pub mod Demand3
pub mod Items
pub mod Header
