pub mod Centres
pub mod Figures
pub mod Laws
pub mod Masks
pub mod Patterns
pub mod Stream
pub mod Words
