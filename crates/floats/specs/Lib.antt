pub mod Operations
pub mod Numbers
pub mod Order
pub mod Whole
pub mod Quotients
pub mod Bounds
pub mod Units
