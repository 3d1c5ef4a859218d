pub mod Numbers
pub mod Words
pub mod Told
pub mod Hubs
pub mod Pods
pub mod Ends
