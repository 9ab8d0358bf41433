mod Asked
mod Shelf
mod Sound
mod Ahead
mod Rounds
mod Covering
mod Shelving
mod Open
mod Compare
pub mod Promised
pub mod Sample
