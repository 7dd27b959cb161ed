pub mod TightBoxes
pub mod Laws
pub mod Shelf
