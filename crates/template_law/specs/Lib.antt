pub mod Formulas
pub mod Sounds
pub mod Plans
