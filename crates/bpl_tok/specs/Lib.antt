pub mod Bytes
pub mod Cuts
pub mod Lexed
pub mod Pieces
pub mod Spellings
pub mod Terminals
