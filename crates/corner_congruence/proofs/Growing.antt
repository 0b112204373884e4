-- One more state, and one more root.
use Rattle.std.proofs.Common.{◌≡◌, ◌<◌, ◌≤◌, ◌+◌, ℕ, List, [], ◌∷◌, ◌++◌, ◌⊎◌, inl, inr, length, map, take, get_or, sym, ◌∙◌, ap, ap₂, subst, arith}
use Rattle.std.proofs.lemmas.Bool.{cases_lt}
use Rattle.std.proofs.lemmas.List.{length-map, map_push, take_all, take_more, get_or_append_left, get_or_push}
use Rattle.tree_model.specs.Automata.{TreeState}
use Rattle.cone_types.specs.Cones.{Cone}
use Rattle.corner_congruence.specs.Congruence.{cone_of, AreFirst}

-- the states so far are the first cone types
pub one_more : (states : List TreeState) (types : List Cone) (s : TreeState) (i : ℕ) (d : Cone)
    → map cone_of states ≡ take i types → i < length types → cone_of s ≡ get_or types i d
    → map cone_of (states ++ s ∷ []) ≡ take (i + 1) types
one_more states types s i d before under is =
    map_push cone_of states s ∙ ap₂ (λ a b. a ++ b ∷ []) before is ∙ sym (take_more types i d under)

pub one_more_root : (roots : List ℕ) (k : ℕ) → length roots ≡ k → AreFirst k roots
    → AreFirst (k + 1) (roots ++ k ∷ [])
one_more_root roots k is first j under = go (cases_lt j k)
  where
    go : (j < k) ⊎ (k ≤ j) → get_or (roots ++ k ∷ []) j 0 ≡ j
    go (inl less) = get_or_append_left roots (k ∷ []) 0 j (omega (arith, is, less)) ∙ first j less
    go (inr least) = let same : k ≡ j = omega (arith, least, under) in
        subst (λ x. get_or (roots ++ k ∷ []) x 0 ≡ x) same (get_or_push roots k 0 k is)

pub as_many : (states : List TreeState) (types : List Cone) (n : ℕ) → map cone_of states ≡ take n types
    → length types ≤ n → length states ≡ length types
as_many states types n same all = sym (length-map states cone_of) ∙ ap length same
    ∙ ap length (take_all n types all)
