pub mod Text
pub mod Judged
