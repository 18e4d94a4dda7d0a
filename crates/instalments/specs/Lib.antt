pub mod Instalments
pub mod Numbers
pub mod Lent
pub mod Claims
