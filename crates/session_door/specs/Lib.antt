pub mod Entering
