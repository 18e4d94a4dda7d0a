pub mod Places
pub mod Unknown
