pub mod Endings
pub mod Booking
pub mod Beginning
pub mod Linking
pub mod Opening
pub mod Shown
pub mod ClosedCalls
pub mod OpenCalls
