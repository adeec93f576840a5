pub mod Elements
pub mod Items
pub mod Refusals
pub mod Table
pub mod symbol
