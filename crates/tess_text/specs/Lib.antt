pub mod FileLines
pub mod Grammar
pub mod Spelling
pub mod Text
pub mod Tables
pub mod Laws
