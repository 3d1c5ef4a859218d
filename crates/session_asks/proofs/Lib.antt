pub mod Counted
pub mod Named
pub mod Undialed
pub mod Dialed
