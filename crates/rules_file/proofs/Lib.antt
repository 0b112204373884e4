-- Lemmas of this crate.
pub mod Conversion
pub mod Taking
pub mod Entries
pub mod Pairs
pub mod Kept
pub mod Failures
pub mod Fitting
pub mod Sizes
pub mod Floats
pub mod Unique
pub mod Canonical
pub mod Writable
pub mod Spelt
pub mod Printing
