pub mod Words
pub mod Pairings
pub mod Moves
pub mod Division
pub mod Operations
pub mod Blasted
pub mod Standing
