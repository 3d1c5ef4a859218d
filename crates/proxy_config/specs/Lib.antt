pub mod Texts
pub mod Reading
pub mod Sections
pub mod Settings
pub mod Faults
