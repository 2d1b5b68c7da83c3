pub mod Takers
pub mod Laws
