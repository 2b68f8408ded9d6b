pub mod Meanings
pub mod Passes
pub mod Stages
pub mod Borders
pub mod Laws
pub mod Runs
