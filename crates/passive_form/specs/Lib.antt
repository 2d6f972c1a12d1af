pub mod Limited
pub mod Local
pub mod WellSorted
pub mod Versions
pub mod Making
pub mod Drafts
pub mod Laws
pub mod SameRuns
