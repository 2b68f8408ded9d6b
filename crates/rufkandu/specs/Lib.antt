pub mod Bands
pub mod Commands
