pub mod Stepping
pub mod Sharing
pub mod Inflows
pub mod Masks
pub mod Held
