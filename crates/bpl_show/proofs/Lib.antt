pub mod Equations
pub mod KindLaws
pub mod LineLaws
pub mod Loops
pub mod Worked
pub mod Written
