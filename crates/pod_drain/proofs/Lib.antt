pub mod Follow
pub mod Asking
pub mod Undo
pub mod Rows
pub mod Plans
