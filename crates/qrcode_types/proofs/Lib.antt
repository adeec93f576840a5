pub mod Alphabet
pub mod BlockTable
pub mod LengthFields
pub mod Pairs
pub mod Writing
