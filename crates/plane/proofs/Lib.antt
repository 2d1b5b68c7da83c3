pub mod Checks
pub mod Edges
