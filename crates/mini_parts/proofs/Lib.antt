pub mod Others
pub mod Left
pub mod Spelled
