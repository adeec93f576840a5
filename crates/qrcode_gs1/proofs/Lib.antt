mod Reading
pub mod Bounds
pub mod Cuts
pub mod MarkedElements
pub mod Marks
pub mod Pieces
pub mod Reached
pub mod Readings
pub mod Shown
pub mod Spelled
pub mod Steps
