pub mod Format
pub mod Held
pub mod Laws
pub mod Outlined
