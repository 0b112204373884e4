-- Lemmas of this crate.
mod Alone
mod Apart
mod Halving
mod Hanging
mod Links
