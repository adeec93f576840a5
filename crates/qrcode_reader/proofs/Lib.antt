pub mod Copies
pub mod Corrections
mod PatternKinds
pub mod Interleaved
pub mod PartsRead
pub mod Positioned
pub mod Refused
pub mod ShownTexts
pub mod Walked
pub mod Fronts
pub mod Groups
pub mod Letters
pub mod Pairs
pub mod Unspelled
pub mod Spelled
mod Headings
mod NoHeader
pub mod Parted
mod ShownBytes
mod BlockCorrections
mod Locators
mod Moments
mod Remainders
mod Searches
mod Sums
