pub mod Kept
pub mod Using
