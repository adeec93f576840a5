pub mod Refusals
pub mod Steps
pub mod Parts
pub mod Texts
