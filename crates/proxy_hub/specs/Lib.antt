pub mod States
pub mod Steps
pub mod Loads
pub mod Hubs
pub mod Ports
pub mod Kinds
pub mod AtDesks
pub mod Faults
