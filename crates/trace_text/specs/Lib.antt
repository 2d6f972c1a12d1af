pub mod Pairs
pub mod ReadValues
pub mod Reading
pub mod Traces
pub mod Values
pub mod Words
pub mod ReadingBack
pub mod Printing
