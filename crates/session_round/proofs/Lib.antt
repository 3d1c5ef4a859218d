pub mod Bytes
pub mod Short
pub mod OneLeg
pub mod More
