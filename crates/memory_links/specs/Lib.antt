pub mod Script
pub mod Lists
pub mod Counts
pub mod Boards
pub mod Counting
pub mod Gates
pub mod Ledgers
