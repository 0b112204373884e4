-- Logs: lists of changes that are applied to a walk in turn. Where a log leads is `Lead`, of the
-- changes of walks; here stands which change is the first that is not allowed.
use Rattle.std.specs.Prelude.{◌≡◌, ◌≢◌, ℕ, suc, List, ◌∷◌, ◌++◌, length}
use Rattle.tile_model.specs.declared.Letter.{Letter}
use Rattle.tile_model.specs.Tessellations.{TileKind}
use Rattle.tile_model.specs.Relation.{Change, Changes, Lead}

-- The change is allowed in walk u: it leads to some walk. It does not where its place is past the
-- end of the walk, where its loop is none of the five, and where that loop is to be deleted and does
-- not follow.
abbrev pub IsAllowed : List TileKind → ℕ × ℕ → Change → List Letter → Type 0
IsAllowed kinds d c u = (v : List Letter) × Changes kinds d c u v

-- Change number n of the log, counted from 1, is the first that is not allowed: those before it lead
-- from walk u to a walk in which it is not.
pub record IsFirstRefused (kinds : List TileKind) (d : ℕ × ℕ) (u : List Letter) (log : List Change)
    (n : ℕ) : Type 0 where
  pub before : List Change
  pub refused : Change
  pub behind : List Change
  pub split : log ≡ before ++ (refused ∷ behind)
  pub number : n ≡ suc (length before)
  pub walk : List Letter
  pub leads : Lead kinds d before u walk
  pub fails : ¬ (IsAllowed kinds d refused walk)

-- all changes of the log are allowed, and lead from u to another walk than w
abbrev pub LeadsElsewhere : List TileKind → ℕ × ℕ → List Change → List Letter → List Letter → Type 0
LeadsElsewhere kinds d log u w = (v : List Letter) × Lead kinds d log u v × (v ≢ w)
