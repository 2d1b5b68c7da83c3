pub mod Refusals
pub mod Meaning
pub mod Marks
pub mod Outlines
pub mod Rings
