pub mod Reading
pub mod Replies
pub mod Tally
pub mod RoundTrip
pub mod Keeps
