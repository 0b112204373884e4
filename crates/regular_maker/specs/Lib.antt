pub mod Regular
pub mod Corners
pub mod States
pub mod Pairs
pub mod Automaton
pub mod Rules
pub mod Laws
