-- Lemmas of this crate.
mod Growing
