pub mod Shapes
pub mod Evidence
pub mod Halves
pub mod Measures
pub mod Book
pub mod Refusals
pub mod Calls
pub mod Counts
