pub mod Exactness
pub mod Accepting
