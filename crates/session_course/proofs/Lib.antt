pub mod Booked
pub mod Plain
pub mod Attempt
pub mod Chain
