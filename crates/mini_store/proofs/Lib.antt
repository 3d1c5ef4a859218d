pub mod Orders
pub mod Keeps
pub mod Ends
pub mod Paged
pub mod Places
pub mod Adding
pub mod Picking
mod AlwaysRise
