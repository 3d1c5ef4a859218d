pub mod Homes
pub mod Listing
pub mod OneRoll
pub mod Standing
pub mod Rising
