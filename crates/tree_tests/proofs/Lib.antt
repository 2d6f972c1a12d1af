pub mod Fitting
pub mod Calling
