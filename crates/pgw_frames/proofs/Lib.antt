pub mod Fronts
pub mod Longest
pub mod Joined
pub mod Lending
