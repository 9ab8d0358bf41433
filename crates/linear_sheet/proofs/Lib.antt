mod PlaceExact
mod Ranges
pub mod Whole
