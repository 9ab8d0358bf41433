pub mod Within
pub mod Keeping
pub mod Joining
pub mod Whole
