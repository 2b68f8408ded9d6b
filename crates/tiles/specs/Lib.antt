pub mod Tiles
pub mod Views
pub mod Reference
pub mod Runs
pub mod AnyTiles
pub mod Law
pub mod Plays
pub mod Texts
