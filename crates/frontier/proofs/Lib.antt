pub mod Lists
pub mod Paths
pub mod Sites
pub mod Counting
pub mod Freeing
