pub mod Asking
pub mod Admitting
pub mod Dialing
