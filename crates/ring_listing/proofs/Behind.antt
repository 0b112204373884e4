-- How the names that are left go on from move to move.
use Rattle.std.proofs.Common.{◌≡◌, ◌≢◌, ℕ, zero, suc, ◌+◌, ◌-◌, ◌<◌, ◌≤◌, List, [], ◌∷◌, ◌++◌, length, map, refl, sym, ap, ap₂, ◌∙◌, subst, arith}
use Rattle.tile_model.specs.Tessellations.{TileKind}
use Rattle.tree_model.specs.declared.Rule.{Rule}
use Rattle.tree_model.specs.declared.Rule.TheVariants.{Parent, Child, Left, Right}
use Rattle.tree_model.specs.Automata.{TreeAutomaton, rule_at, side_count}
use Rattle.tree_model.specs.Names.{child_of, reached}
use Rattle.tree_model.proofs.Rings.{names_below, behind_sides, behind_rule}
use Rattle.ring_listing.specs.Trails.{HasNoChild, IsDone, names_from, names_behind}

rule_empty : (f : ℕ → List (List ℕ)) (r : Rule) → ((c : ℕ) → r ≢ Child c) → behind_rule f r ≡ []
rule_empty f (Child c) none = absurd (none c refl)
rule_empty f Parent none = refl
rule_empty f Left none = refl
rule_empty f Right none = refl

module _ (kinds : List TileKind) (a : TreeAutomaton) where
  -- the names of e sides behind a side of state s
  abbrev behind : ℕ → ℕ → ℕ → List (List ℕ)
  behind e s x = behind_rule (names_below kinds a e) (rule_at a s x)

  sides_empty : (e s n i : ℕ) → HasNoChild a s i (i + n) → behind_sides (behind e s) n i ≡ []
  sides_empty e s zero i none = refl
  sides_empty e s (suc n) i none =
      ap₂ (λ u v. map (λ m. i ∷ m) u ++ v)
      (rule_empty (names_below kinds a e) (rule_at a s i) (λ c. none i c (omega arith) (omega arith)))
      (sides_empty e s n (suc i) (λ x c l h. none x c (omega (arith, l)) (omega (arith, h))))

  sides_skip : (e s m k n i : ℕ) → m ≡ k + n → HasNoChild a s i (i + k) → behind_sides (behind e s) m i ≡ behind_sides (behind e s) n (i + k)
  sides_skip e s m zero n i same none =
      let count : m ≡ n = omega (arith, same) in
      let side : i ≡ i + 0 = omega arith in
      ap₂ (behind_sides (behind e s)) count side
  sides_skip e s zero (suc k) n i same none = absurd (omega (arith, same))
  sides_skip e s (suc m) (suc k) n i same none =
      let first = rule_empty (names_below kinds a e) (rule_at a s i) (λ c. none i c (omega arith) (omega arith)) in
      let rest = sides_skip e s m k n (suc i) (omega (arith, same)) (λ x c l h. none x c (omega (arith, l)) (omega (arith, h))) in
      let side : suc i + k ≡ i + suc k = omega arith in
      ap (λ u. map (λ m. i ∷ m) u ++ behind_sides (behind e s) m (suc i)) first ∙ rest ∙ ap (behind_sides (behind e s) n) side

  pub from_first : (e s : ℕ) → names_from kinds a e s 0 ≡ names_below kinds a e s
  from_first zero s = refl
  from_first (suc e) s =
      let count : side_count kinds a s - 0 ≡ side_count kinds a s = omega arith in
      ap (λ n. behind_sides (behind e s) n 0) count

  from_child : (e s i x c : ℕ) → i ≤ x → x < side_count kinds a s → rule_at a s x ≡ Child c → HasNoChild a s i x
      → names_from kinds a (suc e) s i ≡ map (λ m. x ∷ m) (names_from kinds a e c 0) ++ names_from kinds a (suc e) s (suc x)
  from_child e s i x c l h child none =
      let n = side_count kinds a s in
      let k = x - i in
      let split : n - i ≡ k + suc (n - suc x) = omega (arith, l, h) in
      let there : i + k ≡ x = omega (arith, l) in
      let skip = sides_skip e s (n - i) k (suc (n - suc x)) i split (λ y d m less. none y d m (omega (arith, less, there))) in
      let named : behind e s x ≡ names_from kinds a e c 0 = ap (behind_rule (names_below kinds a e)) child ∙ sym (from_first e c) in
      skip ∙ ap (behind_sides (behind e s) (suc (n - suc x))) there
      ∙ ap (λ u. map (λ m. x ∷ m) u ++ behind_sides (behind e s) (n - suc x) (suc x)) named

  from_done : (e s i : ℕ) → IsDone kinds a e s i → names_from kinds a e s i ≡ []
  from_done zero s zero done = absurd (omega (arith, done.given refl))
  from_done zero s (suc i) done = refl
  from_done (suc e) s i done =
      sides_empty e s (side_count kinds a s - i) i (λ x c l h. done.childless (omega arith) x c l (omega (arith, l, h)))

  -- going down to the next child
  pub behind_down : (e s : ℕ) (m : List ℕ) (i x c : ℕ) → length m < e → i ≤ x → x < side_count kinds a (reached a s m) → rule_at a (reached a s m) x ≡ Child c → HasNoChild a (reached a s m) i x
      → names_behind kinds a e s (m ++ x ∷ []) 0 ≡ names_behind kinds a e s m i
  unfolding names_behind
  behind_down zero s m i x c less l h child none = absurd (omega (arith, less))
  behind_down (suc e) s [] i x c less l h child none =
      ap (λ t. map (λ m. x ∷ m) (names_from kinds a e t 0) ++ names_from kinds a (suc e) s (suc x)) (ap child_of child)
      ∙ sym (from_child e s i x c l h child none)
  behind_down (suc e) s (y ∷ m) i x c less l h child none =
      ap (λ u. map (λ m. y ∷ m) u ++ names_from kinds a (suc e) s (suc y))
      (behind_down e (child_of (rule_at a s y)) m i x c (omega (arith, less)) l h child none)

  -- going back to the parent
  pub behind_back : (e s : ℕ) (m : List ℕ) (x i left : ℕ) → e ≡ suc (length m) + left → IsDone kinds a left (reached a s (m ++ x ∷ [])) i
      → names_behind kinds a e s m (suc x) ≡ names_behind kinds a e s (m ++ x ∷ []) i
  unfolding names_behind
  behind_back zero s m x i left same done = absurd (omega (arith, same))
  behind_back (suc e) s [] x i left same done =
      let count : left ≡ e = omega (arith, same) in
      let t = child_of (rule_at a s x) in
      sym (ap (λ u. map (λ m. x ∷ m) u ++ names_from kinds a (suc e) s (suc x)) (from_done e t i (subst (λ n. IsDone kinds a n t i) count done)))
  behind_back (suc e) s (y ∷ m) x i left same done =
      ap (λ u. map (λ m. y ∷ m) u ++ names_from kinds a (suc e) s (suc y))
      (behind_back e (child_of (rule_at a s y)) m x i left (omega (arith, same)) done)

  -- at a name of full length
  pub behind_whole : (s : ℕ) (m : List ℕ) → names_behind kinds a (length m) s m 0 ≡ m ∷ names_behind kinds a (length m) s m 1
  unfolding names_behind
  behind_whole s [] = refl
  behind_whole s (x ∷ m) =
      ap (λ u. map (λ m. x ∷ m) u ++ names_from kinds a (suc (length m)) s (suc x)) (behind_whole (child_of (rule_at a s x)) m)

  -- at the root
  pub behind_root : (e s i : ℕ) → IsDone kinds a e s i → names_behind kinds a e s [] i ≡ []
  unfolding names_behind
  behind_root e s i done = from_done e s i done

  pub behind_first : (e s : ℕ) → names_behind kinds a e s [] 0 ≡ names_below kinds a e s
  unfolding names_behind
  behind_first e s = from_first e s
