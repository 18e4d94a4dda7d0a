pub mod Judged
pub mod Strangers
pub mod TextRules
pub mod Rules
pub mod Framed
