pub mod Determined
pub mod PrintedBack
