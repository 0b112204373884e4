pub mod Steps
pub mod Depth
pub mod Telling
pub mod Standing
pub mod Comparing
pub mod Going
pub mod Measuring
pub mod Written
