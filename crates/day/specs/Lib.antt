pub mod Tables
pub mod Calls
pub mod Day
pub mod Running
pub mod Text
pub mod Whole
