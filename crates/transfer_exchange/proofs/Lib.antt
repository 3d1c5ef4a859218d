pub mod Packets
pub mod Taking
pub mod Within
pub mod Lengths
pub mod Sending
