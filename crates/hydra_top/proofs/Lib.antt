pub mod Determined
pub mod Openings
pub mod ReadSteps
pub mod Told
pub mod TreeSteps
pub mod WriteSteps
