pub mod Finite
pub mod Outlines
pub mod Sane
