pub mod Splits
pub mod Numbers
pub mod Begins
pub mod Operands
pub mod Forms
pub mod Decided
