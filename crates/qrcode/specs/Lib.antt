pub mod Acceptance
pub mod Code
pub mod Drawing
pub mod Pictures
pub mod Reading
pub mod Texts
