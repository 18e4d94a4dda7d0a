pub mod Sextets
pub mod Calls
pub mod Back
pub mod Made
pub mod Proved
pub mod Codes
pub mod Fronts
pub mod Reading
