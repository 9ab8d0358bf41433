mod Steps
mod Values
pub mod Written
pub mod Spelled
pub mod Due
pub mod Filling
pub mod Folding
