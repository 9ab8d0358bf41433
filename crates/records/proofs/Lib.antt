mod Steps
pub mod Exactness
