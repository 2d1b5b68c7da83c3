pub mod Chains
pub mod Charts
pub mod Crossings
pub mod Order
pub mod Records
pub mod Words
