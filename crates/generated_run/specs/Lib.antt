pub mod Generated
pub mod Repeats
