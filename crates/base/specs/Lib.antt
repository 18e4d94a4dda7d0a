pub mod Pick
pub mod Table
pub mod Below
pub mod Digits
pub mod Cases
pub mod Lists
pub mod Each
pub mod Stores
