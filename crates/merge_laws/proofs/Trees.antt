-- The trees of the merged automaton have the names that they had.
use Rattle.std.proofs.Common.{◌≡◌, ◌≢◌, ◌↔◌, ◌⊎◌, inl, inr, ℕ, ◌<◌, List, [], ◌∷◌, length, sym, ap, ◌∙◌, subst}
use Rattle.std.specs.Prelude.{Option, Some}
use Rattle.std.proofs.lemmas.Bool.{cases_eq}
use Rattle.tile_model.specs.declared.Letter.{Letter}
use Rattle.tile_model.specs.Tessellations.{TileKind}
use Rattle.tile_model.specs.Validity.{IsValid}
use Rattle.tree_model.specs.declared.Rule.TheVariants.{Child}
use Rattle.tree_model.specs.Automata.{TreeAutomaton, root_at, rule_at, side_count}
use Rattle.tree_model.specs.Conditions.{IsAccepted}
use Rattle.tree_model.specs.Names.{child_of, reached, IsNameBelow, IsName, state_of}
use Rattle.tree_model.specs.Positions.{Position}
use Rattle.tree_model.specs.Places.{IsPlace}
use Rattle.merge_model.specs.Faces.{face_at}
use Rattle.merge_model.specs.Telling.{TellsApart, AreTold}
use Rattle.merge_model.specs.Merging.{class_at, class_number, IsMerged}
use Rattle.merge_laws.proofs.Copies.{child_from, sides_same, rule_same, child_same, face_same}
use Rattle.merge_laws.proofs.Paths.{told_not_alike}
use Rattle.merge_laws.proofs.Conditions.{root_class, root_is, child_class}

module _ (kinds : List TileKind) (a : TreeAutomaton) (classes : List (Option ℕ)) (b : TreeAutomaton) (valid : IsValid kinds) (ok : IsAccepted kinds a) (merged : IsMerged kinds a classes b) where
  abbrev class : ℕ → ℕ
  class s = class_number classes s

  -- the child at a side, in both automata
  record HasChildren (s m i : ℕ) : Type 0 where
    child : class_at classes (child_of (rule_at a s i)) ≡ Some (child_of (rule_at b m i))
    rule : rule_at b m i ≡ Child (child_of (rule_at b m i))

  children : (s m i : ℕ) → class_at classes s ≡ Some m → i < side_count kinds a s → rule_at a s i ≡ Child (child_of (rule_at a s i)) → HasChildren s m i
  children s m i h lt c =
      let e = merged.reduced.state s m h in
      let is : rule_at b m i ≡ Child (class (child_of (rule_at a s i))) = child_same kinds a b class s m e i c in
      record {
        child = child_class kinds a classes b valid ok merged s m i h lt c ∙ ap Some (sym (ap child_of is));
        rule = is ∙ ap Child (sym (ap child_of is));
      }

  pub names_there : (s m : ℕ) (name : List ℕ) → class_at classes s ≡ Some m → IsNameBelow kinds a s name → IsNameBelow kinds b m name
  names_there s m [] h n = tt
  names_there s m (i ∷ name) h n =
      let r = children s m i h n.0 n.1 in
      let sides = sides_same kinds a b class s m (merged.reduced.state s m h) in
      (subst (λ k. i < k) (sym sides) n.0, r.rule, names_there (child_of (rule_at a s i)) (child_of (rule_at b m i)) name r.child n.2)

  pub names_back : (s m : ℕ) (name : List ℕ) → class_at classes s ≡ Some m → IsNameBelow kinds b m name → IsNameBelow kinds a s name
  names_back s m [] h n = tt
  names_back s m (i ∷ name) h n =
      let e = merged.reduced.state s m h in
      let lt : i < side_count kinds a s = subst (λ k. i < k) (sides_same kinds a b class s m e) n.0 in
      let (c, _) = child_from class (rule_at a s i) (child_of (rule_at b m i)) (sym (rule_same kinds a b class s m e i) ∙ n.1) in
      let r = children s m i h lt c in
      (lt, c, names_back (child_of (rule_at a s i)) (child_of (rule_at b m i)) name r.child n.2)

  pub reached_class : (s m : ℕ) (name : List ℕ) → class_at classes s ≡ Some m → IsNameBelow kinds a s name → class_at classes (reached a s name) ≡ Some (reached b m name)
  reached_class s m [] h n = h
  reached_class s m (i ∷ name) h n =
      let r = children s m i h n.0 n.1 in
      reached_class (child_of (rule_at a s i)) (child_of (rule_at b m i)) name r.child n.2

  root_class_is : (k : ℕ) → k < length kinds → class_at classes (root_at a k) ≡ Some (root_at b k)
  root_class_is k lt = root_class kinds a classes b valid ok merged k lt ∙ ap Some (sym (root_is kinds a classes b valid ok merged k lt))

  pub names_stay : (k : ℕ) → k < length kinds → (name : List ℕ) → IsName kinds a k name ↔ IsName kinds b k name
  names_stay k lt name =
      (names_there (root_at a k) (root_at b k) name (root_class_is k lt), names_back (root_at a k) (root_at b k) name (root_class_is k lt))

  pub states_are : (k : ℕ) → k < length kinds → (name : List ℕ) → IsName kinds a k name → class_at classes (state_of a k name) ≡ Some (state_of b k name)
  states_are k lt name n = reached_class (root_at a k) (root_at b k) name (root_class_is k lt) n

  reached_sides : (k : ℕ) → k < length kinds → (name : List ℕ) → IsName kinds a k name → side_count kinds b (state_of b k name) ≡ side_count kinds a (state_of a k name)
  reached_sides k lt name n =
      sides_same kinds a b class (state_of a k name) (state_of b k name) (merged.reduced.state (state_of a k name) (state_of b k name) (states_are k lt name n))

  pub places_stay : (k : ℕ) → k < length kinds → (u : List Letter) (p : Position) → IsPlace kinds a k u p ↔ IsPlace kinds b k u p
  places_stay k lt u p = (
    (λ h. record {
      position = record {
        name = (names_stay k lt p.name).0 h.position.name;
        side = subst (λ n. p.side < n) (sym (reached_sides k lt p.name h.position.name)) h.position.side;
      };
      related = h.related;
    }),
    (λ h.
        let n = (names_stay k lt p.name).1 h.position.name in
        record {
          position = record { name = n; side = subst (λ j. p.side < j) (reached_sides k lt p.name n) h.position.side };
          related = h.related;
        }),
  )

  -- a path that tells two states apart tells their classes apart
  pub told_there : (s t m n : ℕ) → class_at classes s ≡ Some m → class_at classes t ≡ Some n → AreTold kinds a s t → AreTold kinds b m n
  told_there s t m n h g (path, told) = (
    path,
    record {
      from_first = names_there s m path h told.from_first;
      from_second = names_there t n path g told.from_second;
      differ = λ same. told.differ (
          sym (there s m h told.from_first) ∙ same ∙ there t n g told.from_second);
    },
  )
    where
      there : (x y : ℕ) → class_at classes x ≡ Some y → IsNameBelow kinds a x path → face_at b (reached b y path) ≡ face_at a (reached a x path)
      there x y c below = face_same kinds a b class (reached a x path) (reached b y path) (merged.reduced.state (reached a x path) (reached b y path) (reached_class x y path c below))

  pub states_told : (m n : ℕ) → m < length b.states → n < length b.states → m ≢ n → AreTold kinds b m n
  states_told m n lm ln other =
      let (s, h) = merged.classed.used m lm in
      let (t, g) = merged.classed.used n ln in
      told_there s t m n h g (merged.classed.told s t m n h g other)

  pub classes_exact : (s t m n : ℕ) → class_at classes s ≡ Some m → class_at classes t ≡ Some n → (m ≡ n) ↔ ((path : List ℕ) → ¬ (TellsApart kinds a s t path))
  classes_exact s t m n h g = (
    (λ e path told. told_not_alike kinds a s t (path, told) (merged.classed.alike s t m h (g ∙ ap Some (sym e)))),
    (λ none. go none (cases_eq m n)),
  )
    where
      go : ((path : List ℕ) → ¬ (TellsApart kinds a s t path)) → (m ≡ n) ⊎ (m ≢ n) → m ≡ n
      go none (inl e) = e
      go none (inr d) = let (path, told) = merged.classed.told s t m n h g d in absurd (none path told)
