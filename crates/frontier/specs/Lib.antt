pub mod Ways
pub mod Wanted
pub mod Passed
