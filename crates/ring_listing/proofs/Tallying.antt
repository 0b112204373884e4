-- A tally that has counted one ring more, or has found the next one too big.
use Rattle.std.proofs.Common.{◌≡◌, ℕ, suc, ◌+◌, ◌-◌, ◌<◌, ◌≤◌, List, [], ◌∷◌, ◌++◌, length, take, replicate, slice_index_or, slice_set, true, false, sym, ap, ◌∙◌, subst, arith, ◌⊎◌, inl, inr, length-append}
use Rattle.std.proofs.Math.Seq.{get_or-append_seam, take-append_seam}
use Rattle.std.proofs.lemmas.Bool.{cases_lt}
use Rattle.std.proofs.lemmas.List.{get_or_append_left, length-replicate}
use Rattle.tile_model.specs.Tessellations.{TileKind}
use Rattle.tree_model.specs.Automata.{TreeAutomaton, root_at}
use Rattle.tree_model.specs.Limits.{most_counted}
use Rattle.tree_model.proofs.Rings.{count_below}
use Rattle.ring_listing.specs.declared.tally.Tally.{Tally}
use Rattle.ring_listing.specs.Populations.{children_sum, tiles_sum, IsPopulation}
use Rattle.ring_listing.specs.Tallies.{IsTally}
use Rattle.ring_listing.proofs.Next.{ring_size, next_population, next_size}
use Rattle.ring_listing.proofs.Sums.{sum_with, sum_of_none, one_of_all}

-- a list of the same length in the place of another
pub written : (n : ℕ) (xs ys : List ℕ) → n ≡ length xs → take n (xs ++ ys) ≡ xs
written n xs ys same = ap (λ m. take m (xs ++ ys)) same ∙ take-append_seam xs ys

-- of ring 0 one tile is in the state of the root
pub first_population : (kinds : List TileKind) (a : TreeAutomaton) (k n : ℕ) → root_at a k < n → IsPopulation kinds a k 0 (slice_set (replicate n 0) (root_at a k) 1)
first_population kinds a k n known = λ e.
    let root = root_at a k in
    let f : ℕ → ℕ = count_below kinds a e in
    let none = sum_of_none (λ _. 1) 0 n in
    let new : 1 ≡ slice_index_or (replicate n 0) root 0 + 1 = omega (arith, one_of_all 0 (replicate n 0) root, none) in
    let sum = sum_with f 0 (replicate n 0) root 1 1 (omega (arith, known, length-replicate {A = ℕ} n 0)) new in
    let place : f (0 + root) ≡ f root = ap f (omega arith) in
    let same : count_below kinds a e root ≡ count_below kinds a (0 + e) root = ap (λ d. count_below kinds a d root) (omega arith) in
    let left : tiles_sum f 0 (slice_set (replicate n 0) root 1) ≡ f root = omega (arith, sum, sum_of_none f 0 n, place) in
    left ∙ same

module _ (t u : Tally) (h : IsTally t) (started : 0 < length t.sizes.items) where
  abbrev names : ℕ → ℕ
  names d = count_below t.rules.now.kinds t.rules.now.automaton d (root_at t.rules.now.automaton t.kind)

  last_is : suc (length t.sizes.items - 1) ≡ length t.sizes.items
  last_is = omega (arith, started)

  population : IsPopulation t.rules.now.kinds t.rules.now.automaton t.kind (length t.sizes.items - 1) t.tiles.items
  population = (h.going started).population (length t.sizes.items - 1) last_is

  module _ (n : ℕ) (few : n ≤ most_counted) (not_full : t.is_full ≡ false) (sizes : u.sizes.items ≡ t.sizes.items ++ n ∷ []) (room : length u.room.items ≡ length t.tiles.items) (tiles : length u.tiles.items ≡ length t.room.items)
      (sums : (f : ℕ → ℕ) → tiles_sum f 0 u.tiles.items ≡ tiles_sum (λ s. children_sum f (slice_index_or t.families.items s [])) 0 t.tiles.items) (all : tiles_sum (λ _. 1) 0 u.tiles.items ≡ n) where
    next : IsPopulation t.rules.now.kinds t.rules.now.automaton t.kind (length t.sizes.items) u.tiles.items
    next = subst (λ d. IsPopulation t.rules.now.kinds t.rules.now.automaton t.kind d u.tiles.items) last_is
        (next_population t.rules.now.kinds t.rules.now.automaton t.kind (length t.sizes.items - 1) t.families.items t.tiles.items (h.going started).families (h.going started).tiles population u.tiles.items sums)

    size : n ≡ names (length t.sizes.items)
    size = sym all ∙ ring_size t.rules.now.kinds t.rules.now.automaton t.kind (length t.sizes.items) u.tiles.items next

    more : length u.sizes.items ≡ suc (length t.sizes.items)
    more = omega (arith, ap length sizes, length-append t.sizes.items (n ∷ []))

    size_at : (d : ℕ) → (d < length t.sizes.items) ⊎ (length t.sizes.items ≤ d) → d < length u.sizes.items → (slice_index_or u.sizes.items d 0 ≡ names d) × (names d ≤ most_counted)
    size_at d (inl l) within =
        (ap (λ xs. slice_index_or xs d 0) sizes ∙ get_or_append_left t.sizes.items (n ∷ []) 0 d l ∙ h.sizes d l, h.few d l)
    size_at d (inr l) within =
        let here : d ≡ length t.sizes.items = omega (arith, l, within, more) in
        let same : names (length t.sizes.items) ≡ names d = ap names (sym here) in
        let last : slice_index_or u.sizes.items d 0 ≡ n = ap (λ xs. slice_index_or xs d 0) sizes ∙ ap (λ i. slice_index_or (t.sizes.items ++ n ∷ []) i 0) here ∙ get_or-append_seam t.sizes.items n [] 0 in
        (last ∙ size ∙ same, omega (arith, few, size, same))

    pub tally_more : IsTally (record t { sizes = u.sizes; tiles = u.tiles; room = u.room })
    tally_more =
        let going = h.going started in
        record {
          kind = h.kind;
          sizes = λ d l. (size_at d (cases_lt d (length t.sizes.items)) l).0;
          few = λ d l. (size_at d (cases_lt d (length t.sizes.items)) l).1;
          full = λ f. absurd (cc (f, not_full));
          going = λ _. record {
            families = going.families;
            tiles = tiles ∙ going.room;
            room = room ∙ going.tiles;
            population = λ d e. let same : length t.sizes.items ≡ d = omega (arith, e, more) in subst (λ x. IsPopulation t.rules.now.kinds t.rules.now.automaton t.kind x u.tiles.items) same next;
          };
        }

  pub tally_full : u.sizes.items ≡ t.sizes.items → length u.room.items ≡ length t.room.items
      → most_counted < tiles_sum (λ s. children_sum (λ _. 1) (slice_index_or t.families.items s [])) 0 t.tiles.items
      → IsTally (record t { sizes = u.sizes; is_full = true; room = u.room })
  tally_full sizes room big =
      let going = h.going started in
      let next = next_size t.rules.now.kinds t.rules.now.automaton t.kind (length t.sizes.items - 1) t.families.items t.tiles.items going.families going.tiles population in
      let same : length t.sizes.items ≡ length u.sizes.items = ap length (sym sizes) in
      let count : names (suc (length t.sizes.items - 1)) ≡ names (length u.sizes.items) = ap names (last_is ∙ same) in
      record {
        kind = h.kind;
        sizes = λ d l. ap (λ xs. slice_index_or xs d 0) sizes ∙ h.sizes d (omega (arith, l, same));
        few = λ d l. h.few d (omega (arith, l, same));
        full = λ _. omega (arith, big, next, count);
        going = λ _. record {
          families = going.families;
          tiles = going.tiles;
          room = room ∙ going.room;
          population = λ d e. going.population d (e ∙ sym same);
        };
      }
