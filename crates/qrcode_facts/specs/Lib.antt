pub mod Bars
pub mod Data
pub mod Drawings
pub mod Files
pub mod Printed
pub mod Squares
pub mod Tickets
pub mod Wants
