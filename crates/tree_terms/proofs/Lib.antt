pub mod Growth
mod Found
mod Truths
pub mod Parts
mod Rows
mod Turning
mod Going
pub mod Ruling
mod Reaching
mod Linking
