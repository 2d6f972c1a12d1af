pub mod Net
pub mod Encoding
