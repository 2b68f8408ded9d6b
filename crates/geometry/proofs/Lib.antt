pub mod Ceilings
pub mod Points
pub mod Bounds
pub mod Lattices
