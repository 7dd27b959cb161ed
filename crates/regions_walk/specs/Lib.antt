pub mod Joined
pub mod Buffers
pub mod RegionListed
pub mod RegionsListed
