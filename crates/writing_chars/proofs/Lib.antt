pub mod Strange
