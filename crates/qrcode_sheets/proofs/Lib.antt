pub mod Attributes
pub mod FilledRuns
pub mod Layered
pub mod PackedBits
pub mod Partition
pub mod Pieces
pub mod ZplFields
