pub mod Reading
pub mod Entrances
pub mod Turns
