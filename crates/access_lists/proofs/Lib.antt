pub mod Listed
pub mod Places
pub mod ColonHex
pub mod Slashes
pub mod Readings
pub mod OneReading
