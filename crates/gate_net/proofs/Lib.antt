pub mod Wires
pub mod Ties
pub mod Runs
pub mod Steps
