pub mod Asked
pub mod Picked
