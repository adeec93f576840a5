pub mod Tickets
mod Below
mod Bounds
mod CodeRows
mod DamageRows
mod LeastRows
mod SymbolRows
mod Values
