pub mod Sizes
pub mod Sides
pub mod Meets
pub mod Between
pub mod Shapes
pub mod Inside
