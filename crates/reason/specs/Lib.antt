pub mod Tabled
pub mod Find
pub mod Shelf
