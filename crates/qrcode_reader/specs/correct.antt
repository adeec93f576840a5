pub mod Errors
pub mod Polynomials
pub mod Recurrences
