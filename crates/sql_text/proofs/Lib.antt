pub mod Runs
pub mod Numerals
pub mod Cutting
pub mod Items
pub mod Quotes
pub mod Pieces
