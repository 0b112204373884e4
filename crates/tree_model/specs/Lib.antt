pub mod Automata
pub mod OuterLinks
pub mod Conditions
pub mod Contours
pub mod Limits
pub mod Names
pub mod Positions
pub mod Places
