pub mod Bands
pub mod Tallies
pub mod Tiles
