pub mod Numbers
pub mod Readings
pub mod Splits
pub mod Prefixes
pub mod Checked
