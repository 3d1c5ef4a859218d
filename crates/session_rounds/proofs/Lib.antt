pub mod Deciding
pub mod Asked
pub mod OneTurn
pub mod Chain
