pub mod Ends
pub mod Inside
