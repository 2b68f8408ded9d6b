pub mod Outcomes
pub mod References
pub mod Sides
pub mod Sessions
