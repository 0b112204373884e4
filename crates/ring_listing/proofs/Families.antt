-- Children as their sides are added one by one.
use Rattle.std.proofs.Common.{◌≡◌, ℕ, suc, ◌+◌, ◌<◌, ◌≤◌, List, [], ◌∷◌, ◌++◌, length, slice_index_or, slice_set, sym, ap, ◌∙◌, subst, arith, ◌⊎◌, inl, inr}
use Rattle.std.specs.Prelude.{All}
use Rattle.std.proofs.lemmas.List.Elements.{All-set, All-push}
use Rattle.std.proofs.lemmas.Bool.{cases_lt}
use Rattle.std.proofs.Math.Seq.{get_or-append_seam}
use Rattle.std.proofs.lemmas.List.{get_or_append_left}
use Rattle.tile_model.specs.Tessellations.{TileKind}
use Rattle.tree_model.specs.Automata.{TreeAutomaton}
use Rattle.ring_listing.specs.declared.family.Children.{Children}
use Rattle.ring_listing.specs.Populations.{children_sum, IsFamily, AreFamilies}
use Rattle.ring_listing.proofs.Sums.{children_with, children_push}

pub fewer_sides : (cs : List Children) (n : ℕ) → All (λ c. c.sides ≤ n) cs → All (λ c. c.sides ≤ suc n) cs
fewer_sides cs n h = λ k d less. let few = h k d less in omega (arith, few)

-- one side more that leads to a child in the state of the place
pub one_more : (cs : List Children) (k : ℕ) (old : Children) (state : ℕ) → k < length cs → old ≡ slice_index_or cs k old → old.state ≡ state
    → ((f : ℕ → ℕ) → children_sum f (slice_set cs k (record { state = old.state; sides = old.sides + 1 })) ≡ children_sum f cs + f state)
    × ((n : ℕ) → state < n → All (λ (c : Children). c.state < n) cs → All (λ (c : Children). c.state < n) (slice_set cs k (record { state = old.state; sides = old.sides + 1 })))
    × ((n : ℕ) → All (λ (c : Children). c.sides ≤ n) cs → All (λ (c : Children). c.sides ≤ suc n) (slice_set cs k (record { state = old.state; sides = old.sides + 1 })))
one_more cs k old state less is same =
    let new : Children = record { state = old.state; sides = old.sides + 1 } in
    let sides : old.sides + 1 ≡ suc (slice_index_or cs k old).sides = omega (arith, ap (λ (c : Children). c.sides) is) in (
      λ f. children_with f cs k new old less (ap (λ (c : Children). c.state) is) sides ∙ ap (λ s. children_sum f cs + f s) same,
      λ n small h. All-set (λ (c : Children). c.state < n) cs k new (omega (arith, same, small)) h,
      λ n h. All-set (λ (c : Children). c.sides ≤ suc n) cs k new (let few = h k old less in omega (arith, few, sides)) (fewer_sides cs n h),
    )

-- the first side that leads to a child in some state
pub one_new : (cs : List Children) (state : ℕ)
    → ((f : ℕ → ℕ) → children_sum f (cs ++ record { state = state; sides = 1 } ∷ []) ≡ children_sum f cs + f state)
    × ((n : ℕ) → state < n → All (λ (c : Children). c.state < n) cs → All (λ (c : Children). c.state < n) (cs ++ record { state = state; sides = 1 } ∷ []))
    × ((n : ℕ) → All (λ (c : Children). c.sides ≤ n) cs → All (λ (c : Children). c.sides ≤ suc n) (cs ++ record { state = state; sides = 1 } ∷ []))
one_new cs state =
    let new : Children = record { state = state; sides = 1 } in (
      λ f. let sum = children_push f cs new in omega (arith, sum),
      λ n small h. All-push (λ (c : Children). c.state < n) cs new h small,
      λ n h. All-push (λ (c : Children). c.sides ≤ suc n) cs new (fewer_sides cs n h) (omega arith),
    )

module _ (kinds : List TileKind) (a : TreeAutomaton) where
  -- the children of a tile in one state more
  pub family_push : (fs : List (List Children)) (n : ℕ) (cs : List Children) → length fs ≡ n → ((s : ℕ) → s < n → IsFamily kinds a s (slice_index_or fs s [])) → IsFamily kinds a n cs
      → (s : ℕ) → s < n + 1 → IsFamily kinds a s (slice_index_or (fs ++ cs ∷ []) s [])
  family_push fs n cs count each new s less = go (cases_lt s n)
    where
      go : (s < n) ⊎ (n ≤ s) → IsFamily kinds a s (slice_index_or (fs ++ cs ∷ []) s [])
      go (inl l) = subst (IsFamily kinds a s) (sym (get_or_append_left fs (cs ∷ []) [] s (omega (arith, l, count)))) (each s l)
      go (inr l) =
          let here : s ≡ n = omega (arith, l, less) in
          let last : slice_index_or (fs ++ cs ∷ []) s [] ≡ cs = ap (λ i. slice_index_or (fs ++ cs ∷ []) i []) (here ∙ sym count) ∙ get_or-append_seam fs cs [] [] in
          subst (λ i. IsFamily kinds a i (slice_index_or (fs ++ cs ∷ []) s [])) (sym here) (subst (IsFamily kinds a n) (sym last) new)

  pub all_known : (fs gs : List (List Children)) (n : ℕ) → gs ≡ fs → n ≡ length a.states → AreFamilies kinds a fs
      → (s : ℕ) → s < length gs → (k : ℕ) (d : Children) → k < length (slice_index_or gs s []) → (slice_index_or (slice_index_or gs s []) k d).state < n
  all_known fs gs n same room families =
      subst (λ hs. (s : ℕ) → s < length hs → (k : ℕ) (d : Children) → k < length (slice_index_or hs s []) → (slice_index_or (slice_index_or hs s []) k d).state < n) (sym same)
      (λ s l k d less. let known = (families.family s l).known k d less in omega (arith, known, room))
