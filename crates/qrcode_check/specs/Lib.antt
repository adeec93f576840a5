pub mod Checks
pub mod Correction
pub mod Ending
pub mod Forms
pub mod Guesses
pub mod Masks
pub mod Modules
pub mod Segments
