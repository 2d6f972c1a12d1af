pub mod Rule
pub mod Seats
pub mod Thief
pub mod Build
pub mod Closing
