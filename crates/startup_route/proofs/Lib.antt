pub mod PacketLemmas
pub mod EntranceLemmas
pub mod TenantLemmas
pub mod ClusterLemmas
pub mod LastDash
pub mod Spelled
pub mod PlainTexts
