pub mod Search
pub mod Locals
pub mod Exprs
pub mod Rests
pub mod Rings
pub mod Walks
pub mod Flats
pub mod Kept
pub mod Wholes
pub mod Same
pub mod Marks
pub mod Keys
mod Ordered
mod Windows
