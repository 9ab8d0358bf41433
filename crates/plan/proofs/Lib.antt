pub mod Keeping
pub mod Accepts
pub mod Runs
