pub mod Lines
pub mod Replayed
