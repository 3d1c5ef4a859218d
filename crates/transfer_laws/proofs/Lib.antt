pub mod Refusals
pub mod Runs
pub mod Fronts
pub mod Tags
pub mod OldHeard
pub mod NewHeard
pub mod Moving
pub mod Numbers
