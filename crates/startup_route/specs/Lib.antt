pub mod Rejections
pub mod Tenants
pub mod Clusters
pub mod Routes
pub mod Packets
pub mod Entrances
pub mod Doors
