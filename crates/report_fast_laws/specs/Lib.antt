pub mod Fast
pub mod Laws
