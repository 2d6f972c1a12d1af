pub mod Thinking
pub mod Turning
pub mod Rounds
pub mod Holding
pub mod Going
pub mod Ending
