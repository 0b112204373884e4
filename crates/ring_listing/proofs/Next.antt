-- The next ring: how many of its tiles are in each state, and how many there are.
use Rattle.std.proofs.Common.{◌≡◌, ℕ, suc, ◌+◌, List, [], length, slice_index_or, refl, ap, ◌∙◌, arith}
use Rattle.tile_model.specs.Tessellations.{TileKind}
use Rattle.tree_model.specs.Automata.{TreeAutomaton, root_at}
use Rattle.tree_model.proofs.Rings.{count_below}
use Rattle.ring_listing.specs.declared.family.Children.{Children}
use Rattle.ring_listing.specs.Populations.{children_sum, tiles_sum, offspring_sum, AreFamilies, IsPopulation}
use Rattle.ring_listing.proofs.Sums.{sum_same}

module _ (kinds : List TileKind) (a : TreeAutomaton) (k : ℕ) where
  -- there are as many tiles as names
  pub ring_size : (d : ℕ) (tiles : List ℕ) → IsPopulation kinds a k d tiles → tiles_sum (λ _. 1) 0 tiles ≡ count_below kinds a d (root_at a k)
  ring_size d tiles h =
      sum_same (λ _. 1) (count_below kinds a 0) 0 tiles (λ t l g. refl) ∙ h 0 ∙ (let same : d + 0 ≡ d = omega arith in ap (λ n. count_below kinds a n (root_at a k)) same)

  module _ (d : ℕ) (families : List (List Children)) (tiles : List ℕ) (each : AreFamilies kinds a families) (room : length tiles ≡ length a.states) (h : IsPopulation kinds a k d tiles) where
    -- sums over all children are sums over the tiles of the next ring
    children_count : (e : ℕ) → tiles_sum (λ s. children_sum (count_below kinds a e) (slice_index_or families s [])) 0 tiles ≡ count_below kinds a (suc d + e) (root_at a k)
    unfolding offspring_sum
    children_count e =
        sum_same (λ s. children_sum (count_below kinds a e) (slice_index_or families s [])) (count_below kinds a (suc e)) 0 tiles
        (λ t l g. (each.family t (omega (arith, g, room, each.each))).sums (count_below kinds a e))
        ∙ h (suc e) ∙ (let same : d + suc e ≡ suc d + e = omega arith in ap (λ n. count_below kinds a n (root_at a k)) same)

    pub next_population : (next : List ℕ) → ((f : ℕ → ℕ) → tiles_sum f 0 next ≡ tiles_sum (λ s. children_sum f (slice_index_or families s [])) 0 tiles) → IsPopulation kinds a k (suc d) next
    next_population next sums = λ e. sums (count_below kinds a e) ∙ children_count e

    pub next_size : tiles_sum (λ s. children_sum (λ _. 1) (slice_index_or families s [])) 0 tiles ≡ count_below kinds a (suc d) (root_at a k)
    next_size =
        let same : suc d + 0 ≡ suc d = omega arith in
        children_count 0 ∙ ap (λ n. count_below kinds a n (root_at a k)) same
