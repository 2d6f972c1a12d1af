pub mod Statuses
pub mod OpenLoops
pub mod Causes
pub mod OpenFrames
pub mod HeldValues
pub mod AskedNames
