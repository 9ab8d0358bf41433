pub mod Limits
pub mod Faults
pub mod Check
pub mod Runs
pub mod Accepts
