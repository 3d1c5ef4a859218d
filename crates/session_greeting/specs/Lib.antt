pub mod Meanings
pub mod Logins
pub mod Greeting
