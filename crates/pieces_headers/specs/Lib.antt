pub mod Headers
pub mod Wide
