pub mod Stored
pub mod Written
pub mod BranchBox
pub mod Shares
pub mod Shared
pub mod Shelf
