pub mod Sources
pub mod Labels
