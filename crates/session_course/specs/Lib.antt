pub mod Booking
pub mod Standing
pub mod Following
pub mod Course
