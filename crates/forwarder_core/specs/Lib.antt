pub mod Carries
pub mod LinkStands
pub mod RepliesStand
pub mod Flow
pub mod Starting
pub mod Stands
pub mod Transfers
pub mod Hears
