pub mod Accepting
pub mod Looking
pub mod Looks
pub mod Newness
pub mod Soundness
pub mod Trails
