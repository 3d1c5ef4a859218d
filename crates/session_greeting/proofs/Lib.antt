pub mod Reading
pub mod Keyed
pub mod Turns
pub mod Meant
pub mod Went
