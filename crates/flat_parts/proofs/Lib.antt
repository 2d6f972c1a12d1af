pub mod Apart
pub mod Lists
pub mod Nodes
pub mod Blocks
pub mod Flats
