pub mod WalkLaws
pub mod ListLaws
pub mod Fitting
pub mod Members
pub mod NestLaws
pub mod Entering
