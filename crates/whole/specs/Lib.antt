pub mod Spots
pub mod Exact
