pub mod Outwards
pub mod NamesOn
pub mod TilesOn
