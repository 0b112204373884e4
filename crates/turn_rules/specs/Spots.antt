-- The definitions of spots, which stand in spot_laws.
pub use Rattle.spot_laws.specs.Spots.{TreeSpot, position, states_along, root_kind, IsSpot, IsAt, tile_state}
pub use Rattle.spot_laws.specs.Spots.{tile_sides, faced_rule, FacesChild, IsAtChild, IsAtParent, facing, rejoined}
pub use Rattle.spot_laws.specs.Spots.{BracketsAreFew}
