pub mod Formula
pub mod TermSorts
pub mod Meaning
pub mod Variables
pub mod Laws
pub mod Tried
pub mod Kept
