pub mod Admitting
pub mod Assigning
pub mod Behind
pub mod Opening
pub mod Planning
pub mod Suiting
pub mod Members
pub mod Asking
