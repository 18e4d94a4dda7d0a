pub mod Judged
pub mod Heads
pub mod Calls
pub mod Proved
pub mod Inside
pub mod Shift
pub mod Reading
