pub mod Gathering
pub mod Part
pub mod Ahead
pub mod Coming
pub mod Address
pub mod Seeding
pub mod Starting
pub mod Untold
