pub mod Watching
pub mod OneRowMore
pub mod Listings
pub mod Standing
