mod Masks
mod Room
mod Asked
mod LinkExact
mod TurnExact
mod Ranges
pub mod Whole
