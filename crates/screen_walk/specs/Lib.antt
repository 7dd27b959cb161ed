pub mod Screened
pub mod Parts
pub mod Shelf
