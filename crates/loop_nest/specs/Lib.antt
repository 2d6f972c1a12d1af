pub mod Reached
pub mod Nests
pub mod Laws
pub mod Walks
pub mod Listed
