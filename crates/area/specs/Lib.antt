pub mod Code
pub mod Steps
