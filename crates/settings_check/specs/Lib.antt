pub mod Inputs
pub mod Questions
pub mod Trials
pub mod Answers
pub mod Checking
pub mod Statuses
