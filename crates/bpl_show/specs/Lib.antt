pub mod Decls
pub mod Exprs
pub mod Lines
pub mod Names
pub mod Shown
pub mod Stmts
pub mod Tokens
