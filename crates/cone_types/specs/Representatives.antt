-- Entries that stand for their classes.
use Rattle.std.specs.Prelude.{◌≡◌, ◌<◌, ◌⊎◌, ℕ, List, [], ◌∷◌, ◌++◌, length, slice_index_or}
use Rattle.std.proofs.Common.{◌≤◌, inl, inr, refl, subst, sym, length-append, arith}
use Rattle.std.proofs.lemmas.Bool.{cases_lt}
use Rattle.std.proofs.lemmas.List.{get_or_append_left, get_or_push}
use Rattle.cone_types.specs.Partitions.{class_of}

-- What stands for class m is an entry of this class, under the new name.
pub record StandsFor {X : Type 0} (rename : X → X) (classes : List ℕ) (entries : List X) (m : ℕ)
    (x : X) : Type 0 where
  pub entry : ℕ
  pub under : entry < length entries
  pub class : class_of classes entry ≡ m
  pub renamed : (d : X) → x ≡ rename (slice_index_or entries entry d)

-- Each of a list stands for the class that has its number.
abbrev pub StandForClasses : {X : Type 0} → (X → X) → List ℕ → List X → List X → Type 0
StandForClasses rename classes entries few = (m : ℕ) → m < length few
    → (d : _) → StandsFor rename classes entries m (slice_index_or few m d)

-- none stands for none, and one more for one more class
pub none_stands : {X : Type 0} (rename : X → X) (classes : List ℕ) (entries : List X)
    → StandForClasses rename classes entries []
none_stands rename classes entries m under = absurd (omega (arith, under))

pub one_more_stands :
    {X : Type 0} (rename : X → X) (classes : List ℕ) (entries few : List X) (x : X)
    → StandForClasses rename classes entries few
    → StandsFor rename classes entries (length few) x
    → StandForClasses rename classes entries (few ++ x ∷ [])
one_more_stands {X} rename classes entries few x before stands m under d =
    go (cases_lt m (length few))
  where
    P : ℕ → X → Type 0
    P n y = StandsFor rename classes entries n y

    go : (m < length few) ⊎ (length few ≤ m) → P m (slice_index_or (few ++ x ∷ []) m d)
    go (inl less) = subst (P m) (sym (get_or_append_left few (x ∷ []) d m less)) (before m less d)
    go (inr least) =
        let same : length few ≡ m = omega (arith, least, under, length-append few (x ∷ [])) in
        subst (λ n. P n (slice_index_or (few ++ x ∷ []) n d)) same
        (subst (P (length few)) (sym (get_or_push few x d (length few) refl)) stands)
