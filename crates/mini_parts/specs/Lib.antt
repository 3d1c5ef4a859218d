pub mod Named
pub mod NoBlob
pub mod Parts
pub mod Seen
