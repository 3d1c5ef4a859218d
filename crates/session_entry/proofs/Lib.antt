pub mod Sent
pub mod Handed
