pub mod Parts
pub mod Order
pub mod Choices
pub mod IndexedTotal
pub mod IndexedSum
