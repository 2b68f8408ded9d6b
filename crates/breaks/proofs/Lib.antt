pub mod Fills
pub mod LabelMaps
