pub mod Borders
pub mod Choices
pub mod Fronts
pub mod Parts
pub mod Shares
pub mod Together
