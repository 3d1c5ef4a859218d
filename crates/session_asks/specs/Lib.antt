pub mod Asks
pub mod Greetings
pub mod Between
pub mod Dialing
pub mod Admission
pub mod Fits
pub mod Laws
