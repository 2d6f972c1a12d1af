pub mod Lifting
pub mod Reduction
pub mod Shared
pub mod Steps
