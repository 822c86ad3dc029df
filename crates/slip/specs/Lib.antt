pub mod Letters
pub mod Slips
pub mod Reading
pub mod Parts
