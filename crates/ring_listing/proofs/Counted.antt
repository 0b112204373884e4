-- The size of a ring is the number of names below the root.
use Rattle.std.proofs.Common.{◌≡◌, ℕ, ◌<◌, ◌≤◌, List, length, refl, sym, ap, ◌∙◌, arith}
use Rattle.std.proofs.Common.{⊎_elim}
use Rattle.std.proofs.lemmas.Bool.{cases_lt}
use Rattle.tile_model.specs.Tessellations.{TileKind}
use Rattle.tree_model.specs.Automata.{TreeAutomaton, root_at}
use Rattle.tree_model.specs.Names.{IsRing}
use Rattle.tree_model.specs.Limits.{most_counted}
use Rattle.tree_model.proofs.Rings.{names_below, count_below, ring_is, one_ring, length_below}
use Rattle.ring_listing.specs.Rings.{HasSize, IsTooBigRing, IsFirstTooBigRing, RingsAreCounted}

module _ (kinds : List TileKind) (a : TreeAutomaton) (k : ℕ) where
  -- the number of names of d sides
  abbrev pub size : ℕ → ℕ
  size d = count_below kinds a d (root_at a k)

  pub has_size : (d : ℕ) → HasSize kinds a k d (size d)
  has_size d = record { names = names_below kinds a d (root_at a k); ring = ring_is kinds a k d; count = length_below kinds a d (root_at a k) }

  pub size_is : (d n : ℕ) → HasSize kinds a k d n → n ≡ size d
  size_is d n h = sym h.count ∙ ap length (one_ring kinds a k d h.names (names_below kinds a d (root_at a k)) h.ring (ring_is kinds a k d)) ∙ length_below kinds a d (root_at a k)

  pub too_big : (d : ℕ) → most_counted < size d → IsTooBigRing kinds a k d
  too_big d big = record { size = size d; has = has_size d; big = big }

  pub not_too_big : (d : ℕ) → size d ≤ most_counted → ¬ (IsTooBigRing kinds a k d)
  not_too_big d few big = absurd (omega (arith, size_is d big.size big.has, big.big, few))

  -- all rings up to d have at most so many names
  pub counted : (d : ℕ) → ((q : ℕ) → q ≤ d → size q ≤ most_counted) → RingsAreCounted kinds a k d (size d)
  counted d few = record { none_big = λ q l. not_too_big q (few q l); has = has_size d }

  pub counted_is : (d n : ℕ) → RingsAreCounted kinds a k d n → n ≡ size d
  counted_is d n h = size_is d n h.has

  pub first_big : (d r : ℕ) → r ≤ d → most_counted < size r → ((q : ℕ) → q < r → size q ≤ most_counted) → IsFirstTooBigRing kinds a k d r
  first_big d r within big few = record { within = within; big = too_big r big; first = λ q l. not_too_big q (few q l) }

  -- it is that one alone
  pub first_is : (d r s : ℕ) → s ≤ d → most_counted < size s → ((q : ℕ) → q < s → size q ≤ most_counted) → IsFirstTooBigRing kinds a k d r → r ≡ s
  first_is d r s within big few h =
      let not_less : s ≤ r = ⊎_elim (λ l. absurd (not_too_big r (few r l) h.big)) (λ l. l) (cases_lt r s) in
      let not_more : r ≤ s = ⊎_elim (λ l. absurd (h.first s l (too_big s big))) (λ l. l) (cases_lt s r) in
      omega (arith, not_less, not_more)

  -- a list of the ring is as long as the ring was counted to be
  pub listed : (d n : ℕ) (names : List (List ℕ)) → RingsAreCounted kinds a k d n → IsRing kinds a k d names → length names ≡ n
  listed d n names h ring =
      let has : HasSize kinds a k d (length names) = record { names = names; ring = ring; count = refl } in
      size_is d (length names) has ∙ sym (counted_is d n h)
