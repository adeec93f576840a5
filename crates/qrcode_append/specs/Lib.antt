pub mod Division
pub mod Fewest
pub mod Joining
pub mod Reading
pub mod Symbols
