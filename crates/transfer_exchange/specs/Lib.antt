pub mod Course
pub mod Packets
