pub mod Numbers
pub mod Places
pub mod Closed
pub mod First
pub mod Passing
pub mod Rounding
pub mod Laps
pub mod Judging
