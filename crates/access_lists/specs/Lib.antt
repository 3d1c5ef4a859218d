pub mod Networks
pub mod Verdicts
pub mod Indexes
pub mod Addresses
pub mod NetTexts
pub mod Readings
