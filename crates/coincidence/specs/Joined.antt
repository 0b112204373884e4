-- What stands of a table between calls, and how a call changes it.
use Rattle.std.specs.Prelude.{◌≡◌, ℕ, ◌+◌, ◌%◌, ◌<◌, ◌≤◌, List, [], ◌∷◌, ◌++◌, length, replicate, None, Some}
use Rattle.tile_model.specs.declared.Letter.TheVariants.{X, R}
use Rattle.tile_model.specs.Tessellations.{TileKind, kind_at, cross}
use Rattle.tile_model.specs.Validity.{IsValid}
use Rattle.tile_model.specs.Walks.{type_of}
use Rattle.coincidence.specs.declared.origin.Origin.{Origin}
use Rattle.coincidence.specs.declared.table.Table.{Table}
use Rattle.coincidence.specs.Darts.{pack, unpack}
use Rattle.coincidence.specs.Cells.{turn_at, IsLive, live_count, name}
use Rattle.coincidence.specs.Atlases.{AreOne, IsSound}
use Rattle.coincidence.specs.Followed.{AreNamed, HasFallen}
use Rattle.coincidence.specs.Pending.{IsShaped, IsQuiet}
use Rattle.coincidence.specs.Tables.{JoinTable, kind_of, origin_at, atlas, atlas_of, type_at, joined_to, dart_walk, ComesFrom, IsSoundTable}

-- What the fields of a table keep between calls.
pub record IsKept (kinds : List TileKind) (origins : List Origin) (t : Table) : Type 0 where
  pub valid : IsValid kinds
  pub shaped : IsShaped t
  pub quiet : IsQuiet t.cells.items t.slots.items
  pub count : length t.cells.items ≡ length origins
  pub kinds_there : (c : ℕ) → c < length origins → kind_of origins c < length kinds
  pub come : (c : ℕ) → 0 < c → c < length origins → ComesFrom kinds origins c
  pub met : (c : ℕ) → 0 < c → c < length origins
      → AreNamed t.cells.items t.slots.items
      (name t.cells.items (unpack (origin_at origins c).across))
      (name t.cells.items (c, (origin_at origins c).own))
  pub turns : (c : ℕ) → IsLive t.cells.items c
      → (kind_at kinds (kind_of origins c)).sides % turn_at t.cells.items c ≡ 0
  pub sound : IsSound (atlas_of kinds origins) t.cells.items t.slots.items

-- a name is of a live cell, no later one, below its turn
pub record IsNameOf (t : JoinTable) (d p : ℕ × ℕ) : Type 0 where
  pub live : IsLive t.cells p.0
  pub below : p.1 < turn_at t.cells p.0
  pub earlier : p.0 ≤ d.0

-- What holds of a table between calls.
pub record IsTable (t : JoinTable) : Type 0 where
  pub valid : IsValid t.kinds
  pub some : 0 < length t.origins
  pub few : length t.origins ≤ 1000000
  pub count : length t.cells ≡ length t.origins
  pub kinds_there : (c : ℕ) → c < length t.origins → kind_of t.origins c < length t.kinds
  pub live_made : (c : ℕ) → IsLive t.cells c → c < length t.origins
  pub first_walk : (atlas t).walk_to 0 ≡ []
  pub first_live : IsLive t.cells 0
  pub turns : (c : ℕ) → IsLive t.cells c
      → (kind_at t.kinds (kind_of t.origins c)).sides % turn_at t.cells c ≡ 0
  pub named : (d : ℕ × ℕ) → IsNameOf t d (name t.cells d)
  pub name_live : (c i : ℕ) → IsLive t.cells c → name t.cells (c, i) ≡ (c, i % turn_at t.cells c)
  pub one_cell : (c i j : ℕ) → (name t.cells (c, i)).0 ≡ (name t.cells (c, j)).0
  pub beside : (c i : ℕ)
      → name t.cells (c, i + 1)
      ≡ name t.cells ((name t.cells (c, i)).0, (name t.cells (c, i)).1 + 1)
  pub walk_type : (d : ℕ × ℕ) → d.0 < length t.origins
      → type_of t.kinds (kind_of t.origins 0, 0) (dart_walk t d) ≡ type_at t d
  pub related_name : (d : ℕ × ℕ) → AreOne (atlas t) (dart_walk t d) (dart_walk t (name t.cells d))
  pub joined_name : (a b : ℕ × ℕ) → joined_to t a ≡ Some b → IsLive t.cells a.0
      × (name t.cells b ≡ b)
  pub back : (a b : ℕ × ℕ) → joined_to t a ≡ Some b → joined_to t b ≡ Some (name t.cells a)
  pub come : (c : ℕ) → 0 < c → c < length t.origins → ComesFrom t.kinds t.origins c
  pub met : (c : ℕ) → 0 < c → c < length t.origins
      → joined_to t (name t.cells (unpack (origin_at t.origins c).across))
      ≡ Some (name t.cells (c, (origin_at t.origins c).own))
  pub sound : IsSoundTable t

-- How cells were renamed in a call. Where cells come from stays. Names are composed, and while its
-- cell is live a dart keeps its name up to the turn. Darts that were joined are joined, as they are
-- now named. Turns fall to divisors, and no cell comes back to life.
pub record HasRenamed (t t' : JoinTable) : Type 0 where
  pub kinds : t'.kinds ≡ t.kinds
  pub origins : t'.origins ≡ t.origins
  pub names : (d : ℕ × ℕ) → name t'.cells (name t.cells d) ≡ name t'.cells d
  pub kept : (a b : ℕ × ℕ) → joined_to t a ≡ Some b → joined_to t' (name t'.cells a)
      ≡ Some (name t'.cells b)
  pub turns : (c : ℕ) → IsLive t'.cells c → HasFallen t.cells t'.cells c

-- The table of one cell, of the kind handed in, of whose sides none is joined.
pub record IsFirst (kinds : List TileKind) (k : ℕ) (t : JoinTable) : Type 0 where
  pub same_kinds : t.kinds ≡ kinds
  pub count : length t.origins ≡ 1
  pub kind : kind_of t.origins 0 ≡ k
  pub turn : turn_at t.cells 0 ≡ (kind_at kinds k).sides
  pub live : live_count t.cells ≡ 1
  pub unjoined : (d : ℕ × ℕ) → joined_to t d ≡ None

-- the type across a dart, as it is named
abbrev pub type_over : JoinTable → ℕ × ℕ → ℕ × ℕ
type_over t d = cross t.kinds (type_at t (name t.cells d))

-- where a cell comes from that is made across a dart
abbrev pub new_origin : JoinTable → ℕ × ℕ → Origin
new_origin t d = record {
  kind = (type_over t d).0;
  own = (type_over t d).1;
  across = pack (name t.cells d);
}

-- Cell w was made across a dart: where it comes from is added behind, and its walk is that of the
-- dart, X, and as many R as its own side has in number. All else stays: the cells before, with
-- their walks and turns, the names of their darts, and their joins.
pub record HasMade (t t' : JoinTable) (d : ℕ × ℕ) (w : ℕ) : Type 0 where
  pub kinds : t'.kinds ≡ t.kinds
  pub number : w ≡ length t.origins
  pub count : length t'.origins ≡ length t.origins + 1
  pub origins : t'.origins ≡ t.origins ++ new_origin t d ∷ []
  pub old_kinds : (c : ℕ) → c < w → kind_of t'.origins c ≡ kind_of t.origins c
  pub walks : (c : ℕ) → c < w → (atlas t').walk_to c ≡ (atlas t).walk_to c
  pub walk : (atlas t').walk_to w
      ≡ dart_walk t (name t.cells d) ++ X ∷ replicate (origin_at t'.origins w).own R
  pub across : (kind_of t'.origins w, (origin_at t'.origins w).own)
      ≡ cross t.kinds (type_at t (name t.cells d))
  pub turns : (c : ℕ) → c < w → turn_at t'.cells c ≡ turn_at t.cells c
  pub turn : turn_at t'.cells w ≡ (kind_at t'.kinds (kind_of t'.origins w)).sides
  pub names : (e : ℕ × ℕ) → e.0 < w → name t'.cells e ≡ name t.cells e
  pub joined : joined_to t' d ≡ Some (w, (origin_at t'.origins w).own)
  pub joins : (e : ℕ × ℕ) → e.0 < w → ¬ (name t.cells e ≡ name t.cells d) → joined_to t' e
      ≡ joined_to t e
  pub unjoined : (i : ℕ) → i < turn_at t'.cells w → ¬ (i ≡ (origin_at t'.origins w).own)
      → joined_to t' (w, i) ≡ None
  pub live : live_count t'.cells ≡ live_count t.cells + 1
