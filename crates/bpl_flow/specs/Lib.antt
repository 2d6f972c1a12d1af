pub mod Anywhere
pub mod Counted
pub mod Fits
pub mod Flow
pub mod Named
pub mod Parted
pub mod Walk
