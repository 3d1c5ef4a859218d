pub mod Pods
pub mod Rows
pub mod Newest
pub mod Standing
pub mod Faults
