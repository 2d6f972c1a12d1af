pub mod Ascents
pub mod Flags
pub mod Heads
pub mod Orders
pub mod OriginRows
pub mod Plans
pub mod Procs
pub mod Regions
