pub mod Characters
pub mod Cuts
pub mod Elements
pub mod Fewest
pub mod Indicators
pub mod Reading
pub mod Symbols
