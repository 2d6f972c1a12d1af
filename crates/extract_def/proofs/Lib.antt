pub mod Lookup
pub mod Moved
pub mod Ways
pub mod Facts
pub mod Members
pub mod Reaching
pub mod Regions
pub mod Standing
pub mod Extracting
pub mod Rows
mod Ranks
mod Ranking
mod Fitting
mod Circles
mod Shaping
mod Whole
mod Flatness
