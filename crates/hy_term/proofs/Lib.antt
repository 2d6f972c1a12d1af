pub mod Sorting
pub mod Growing
pub mod Numbering
pub mod Ordering
pub mod Typing
pub mod Fitting
pub mod Placing
pub mod Keeping
