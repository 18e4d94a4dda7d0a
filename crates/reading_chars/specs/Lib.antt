pub mod Chars
