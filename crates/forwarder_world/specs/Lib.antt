pub mod Link
pub mod World
pub mod Headline
pub mod Turns
pub mod Startups
