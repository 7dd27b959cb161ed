pub mod Walked
pub mod Tallied
pub mod Branches
pub mod BranchBoxes
pub mod Parts
pub mod Down
pub mod Shelf
