pub mod Blob
pub mod Entries
pub mod Faults
pub mod Laws
pub mod Prepared
pub mod Reading
