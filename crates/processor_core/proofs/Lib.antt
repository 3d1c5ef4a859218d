pub mod Cutting
pub mod Counting
pub mod Errors
pub mod Filling
