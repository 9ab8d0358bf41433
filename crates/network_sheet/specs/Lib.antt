pub mod Links
pub mod Turns
pub mod Network
pub mod Says
