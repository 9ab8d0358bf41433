pub mod Faults
pub mod Text
pub mod Area
pub mod Calls
pub mod Lives
pub mod Promises
