pub mod Trimmed
pub mod Trimming
pub mod Verdict
