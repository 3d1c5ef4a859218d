pub mod Picks
pub mod PickLaws
pub mod Plans
pub mod Orders
pub mod Places
pub mod Movers
pub mod Pods
pub mod PlanLaws
