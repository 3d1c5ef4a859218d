pub mod Tables
pub mod Sessions
