pub mod Addresses
pub mod Networks
pub mod Ports
pub mod Names
pub mod Walks
pub mod Allowed
pub mod Tables
pub mod Counted
