pub mod Exact
pub mod Bits
pub mod Scaled
pub mod InRange
pub mod Converted
