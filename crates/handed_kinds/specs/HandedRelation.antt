-- Which walks from a handed type are related: those that some list of insertions and deletions of
-- its loops leads from one to the other.
use Rattle.std.specs.Prelude.{◌≡◌, ℕ, Bool, true, false, List, [], ◌∷◌, ◌++◌, length}
use Rattle.tile_model.specs.declared.Letter.{Letter}
use Rattle.tile_model.specs.Relation.{Change}
use Rattle.handed_kinds.specs.Handed.{HandedKind}
use Rattle.handed_kinds.specs.HandedWalks.{handed_type, IsHandedLoop}

-- The change leads from walk u to walk w. Behind as many letters as its place says, a loop of its
-- number at the handed type after these letters is inserted, or follows and is deleted.
pub data HandedChanges (hs : List HandedKind) (t : ℕ × ℕ × Bool) (c : Change)
    (u w : List Letter) : Type 0 where
  inserts : (before loop behind : List Letter) → c.insert ≡ true → c.at ≡ length before
      → IsHandedLoop hs (handed_type hs t before) c.loop loop → u ≡ before ++ behind
      → w ≡ before ++ (loop ++ behind) → HandedChanges hs t c u w
  deletes : (before loop behind : List Letter) → c.insert ≡ false → c.at ≡ length before
      → IsHandedLoop hs (handed_type hs t before) c.loop loop → u ≡ before ++ (loop ++ behind)
      → w ≡ before ++ behind → HandedChanges hs t c u w

-- the changes, applied in turn, lead from walk u to walk w
abbrev pub HandedLead : List HandedKind → ℕ × ℕ × Bool → List Change → List Letter → List Letter
    → Type 0
HandedLead hs t [] u w = u ≡ w
HandedLead hs t (c ∷ changes) u w =
    (v : List Letter) × HandedChanges hs t c u v × HandedLead hs t changes v w

-- two walks from t are related: some finite list of changes leads from one to the other
abbrev pub AreHandedRelated : List HandedKind → ℕ × ℕ × Bool → List Letter → List Letter → Type 0
AreHandedRelated hs t u w = (changes : List Change) × HandedLead hs t changes u w
