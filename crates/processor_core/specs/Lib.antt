pub mod Streams
pub mod Tallies
pub mod Stands
pub mod Intakes
