pub mod KeyBytes
pub mod Reaching
pub mod Sizes
