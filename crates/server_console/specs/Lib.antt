pub mod Helps
pub mod Asking
pub mod Statuses
pub mod Telling
