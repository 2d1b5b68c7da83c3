pub mod Exact
pub mod Plane
pub mod Vectors
pub mod Laws
pub mod Propers
pub mod Nears
pub mod Numbers
