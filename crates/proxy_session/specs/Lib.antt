pub mod Why
pub mod Calling
