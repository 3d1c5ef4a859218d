pub mod Attempts
pub mod Telling
pub mod Going
