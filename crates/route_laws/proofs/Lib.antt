pub mod Every
pub mod Sizes
pub mod PacketSizes
pub mod OptionSizes
pub mod Unreserved
pub mod RouteSizes
pub mod Answered
