pub mod Sides
pub mod Names
pub mod Positions
pub mod Rings
pub mod Alike
pub mod OuterLinks
