pub mod Allowed
pub mod Blocks
pub mod Codes
pub mod Dividing
pub mod Field
pub mod Interleaving
