pub mod Scenes
pub mod Asking
pub mod Turns
pub mod Running
