pub mod Reports
pub mod Streaks
