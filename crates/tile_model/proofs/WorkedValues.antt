-- Values that the checker computes, of the heptagons and hexagons that lie three round each corner: they show that the definitions
-- mean what they say.
use Rattle.std.proofs.Common.{◌≡◌, List, [], ◌∷◌, refl, true, false}
use Rattle.tile_model.specs.declared.Letter.TheVariants.{L, R, X}
use Rattle.tile_model.specs.Tessellations.{TileKind}
use Rattle.tile_model.specs.Walks.{type_of, inverse}
use Rattle.tile_model.specs.Relation.{round_corner, Changes, inserts, deletes, AreRelated}

abbrev tiling : List TileKind
tiling = record { sides = 7; repeat = 1; partner = (1, 0) ∷ []; valence = 3 ∷ [] } ∷ record { sides = 6; repeat = 2; partner = (0, 0) ∷ (1, 1) ∷ []; valence = 3 ∷ 3 ∷ [] } ∷ []

-- round the corner of the heptagon: two hexagons, and back
one_step : type_of tiling (0, 0) (L ∷ X ∷ []) ≡ (1, 0)
one_step = refl

two_steps : type_of tiling (0, 0) (L ∷ X ∷ L ∷ X ∷ []) ≡ (1, 1)
two_steps = refl

three_steps : type_of tiling (0, 0) (L ∷ X ∷ L ∷ X ∷ L ∷ X ∷ []) ≡ (0, 0)
three_steps = refl

way_back : inverse (L ∷ X ∷ R ∷ []) ≡ L ∷ X ∷ R ∷ []
way_back = refl

-- the loop round the corner, inserted behind X, where the type is that of a hexagon
loop_inserted : Changes tiling (0, 0) (record { at = 1; loop = 5; insert = true }) (X ∷ R ∷ []) (X ∷ L ∷ X ∷ L ∷ X ∷ L ∷ X ∷ R ∷ [])
loop_inserted = inserts (X ∷ []) (L ∷ X ∷ L ∷ X ∷ L ∷ X ∷ []) (R ∷ []) refl refl round_corner refl refl

-- and deleted again, so that the two walks are related
loop_deleted : AreRelated tiling (0, 0) (X ∷ L ∷ X ∷ L ∷ X ∷ L ∷ X ∷ R ∷ []) (X ∷ R ∷ [])
loop_deleted = (record { at = 1; loop = 5; insert = false } ∷ [], (X ∷ R ∷ [], deletes (X ∷ []) (L ∷ X ∷ L ∷ X ∷ L ∷ X ∷ []) (R ∷ []) refl refl round_corner refl refl, refl))
