pub mod Added
pub mod Again
pub mod ByName
pub mod Entries
pub mod Loops
pub mod Sound
pub mod Takes
pub mod Texts
