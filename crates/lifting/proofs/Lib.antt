pub mod Lifts
pub mod Ends
pub mod StageLaws
pub mod RunLaws
pub mod Parts
pub mod Rows
pub mod Works
