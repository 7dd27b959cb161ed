pub mod Above
pub mod Signed
pub mod Sums
