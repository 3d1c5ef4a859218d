pub mod Fronts
pub mod Unicode
