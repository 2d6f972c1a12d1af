pub mod Program
pub mod Scope
pub mod Loops
pub mod Shape
