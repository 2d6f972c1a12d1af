pub mod Lists
pub mod Naming
pub mod Stored
pub mod Watches
pub mod Watching
