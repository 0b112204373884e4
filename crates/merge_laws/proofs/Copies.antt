-- A state with other children, and states of one face: what they have in common.
use Rattle.std.proofs.Common.{◌≡◌, ℕ, zero, suc, ◌+◌, ◌%◌, List, [], ◌∷◌, map, slice_index_or, refl, sym, ap, ap₂, ◌∙◌}
use Rattle.tile_model.specs.Tessellations.{TileKind, kind_at}
use Rattle.tree_model.specs.declared.Rule.{Rule}
use Rattle.tree_model.specs.declared.Rule.TheVariants.{Parent, Child, Left, Right}
use Rattle.tree_model.specs.Automata.{TreeState, TreeAutomaton, no_claim, state_at, rule_at, claim_at, side_count, type_at}
use Rattle.tree_model.specs.Names.{child_of}
use Rattle.merge_model.specs.Faces.{with_child, with_children, face, face_at}

pub mapped : {X Y : Type 0} (f : X → Y) (xs : List X) (i : ℕ) (d : X) → slice_index_or (map f xs) i (f d) ≡ f (slice_index_or xs i d)
mapped f [] i d = refl
mapped f (x ∷ xs) zero d = refl
mapped f (x ∷ xs) (suc i) d = mapped f xs i d

-- from which rule one with another child was made
pub child_from : (f : ℕ → ℕ) (r : Rule) (c : ℕ) → with_child f r ≡ Child c → (r ≡ Child (child_of r)) × (f (child_of r) ≡ c)
child_from f Parent c e = absurd (cc)
child_from f (Child d) c e = (refl, ap child_of e)
child_from f Left c e = absurd (cc)
child_from f Right c e = absurd (cc)

pub parent_from : (f : ℕ → ℕ) (r : Rule) → with_child f r ≡ Parent → r ≡ Parent
parent_from f Parent e = refl
parent_from f (Child d) e = absurd (cc)
parent_from f Left e = absurd (cc)
parent_from f Right e = absurd (cc)

pub left_from : (f : ℕ → ℕ) (r : Rule) → with_child f r ≡ Left → r ≡ Left
left_from f Parent e = absurd (cc)
left_from f (Child d) e = absurd (cc)
left_from f Left e = refl
left_from f Right e = absurd (cc)

pub right_from : (f : ℕ → ℕ) (r : Rule) → with_child f r ≡ Right → r ≡ Right
right_from f Parent e = absurd (cc)
right_from f (Child d) e = absurd (cc)
right_from f Left e = absurd (cc)
right_from f Right e = refl

plain_twice : (f : ℕ → ℕ) (r : Rule) → with_child (λ c. 0) (with_child f r) ≡ with_child (λ c. 0) r
plain_twice f Parent = refl
plain_twice f (Child c) = refl
plain_twice f Left = refl
plain_twice f Right = refl

rules_twice : (f : ℕ → ℕ) (rs : List Rule) → map (with_child (λ c. 0)) (map (with_child f) rs) ≡ map (with_child (λ c. 0)) rs
rules_twice f [] = refl
rules_twice f (r ∷ rs) = ap₂ (λ x y. x ∷ y) (plain_twice f r) (rules_twice f rs)

-- a face does not see which children are there
pub plain_face : (f : ℕ → ℕ) (u : TreeState) → face (with_children f u) ≡ face u
plain_face f u = ap (λ (rs : List Rule). record { kind = u.kind; off = u.off; rules = rs; claims = u.claims }) (rules_twice f u.rules)

-- State m of b is state s of a with other children.
module _ (kinds : List TileKind) (a b : TreeAutomaton) (f : ℕ → ℕ) (s m : ℕ) (e : state_at b m ≡ with_children f (state_at a s)) where
  pub kind_same : (state_at b m).kind ≡ (state_at a s).kind
  kind_same = ap (λ (u : TreeState). u.kind) e

  pub off_same : (state_at b m).off ≡ (state_at a s).off
  off_same = ap (λ (u : TreeState). u.off) e

  pub sides_same : side_count kinds b m ≡ side_count kinds a s
  unfolding side_count
  sides_same = ap (λ (u : TreeState). (kind_at kinds u.kind).sides) e

  pub type_same : (i : ℕ) → type_at kinds b m i ≡ type_at kinds a s i
  unfolding type_at
  type_same i = ap (λ (u : TreeState). (u.kind, (u.off + i) % (kind_at kinds u.kind).repeat)) e

  pub claim_same : (i : ℕ) → claim_at b m i ≡ claim_at a s i
  unfolding claim_at
  claim_same i = ap (λ (u : TreeState). slice_index_or u.claims i no_claim) e

  pub rule_same : (i : ℕ) → rule_at b m i ≡ with_child f (rule_at a s i)
  unfolding rule_at
  rule_same i = ap (λ (u : TreeState). slice_index_or u.rules i Parent) e ∙ mapped (with_child f) (state_at a s).rules i Parent

  pub face_same : face_at b m ≡ face_at a s
  face_same = ap (with_children (λ c. 0)) e ∙ plain_face f (state_at a s)

  pub child_same : (i : ℕ) → rule_at a s i ≡ Child (child_of (rule_at a s i)) → rule_at b m i ≡ Child (f (child_of (rule_at a s i)))
  child_same i h = rule_same i ∙ ap (with_child f) h

-- two states of one face
module _ (kinds : List TileKind) (a : TreeAutomaton) (s t : ℕ) (e : face_at a s ≡ face_at a t) where
  pub face_sides : side_count kinds a s ≡ side_count kinds a t
  unfolding side_count
  face_sides = ap (λ (u : TreeState). (kind_at kinds u.kind).sides) e

  pub face_rule : (i : ℕ) → with_child (λ c. 0) (rule_at a s i) ≡ with_child (λ c. 0) (rule_at a t i)
  unfolding rule_at
  face_rule i =
      sym (mapped (with_child (λ c. 0)) (state_at a s).rules i Parent)
      ∙ ap (λ (u : TreeState). slice_index_or u.rules i Parent) e
      ∙ mapped (with_child (λ c. 0)) (state_at a t).rules i Parent

  pub face_child : (i : ℕ) → rule_at a s i ≡ Child (child_of (rule_at a s i)) → rule_at a t i ≡ Child (child_of (rule_at a t i))
  face_child i h = (child_from (λ c. 0) (rule_at a t i) 0 (sym (face_rule i) ∙ ap (with_child (λ c. 0)) h)).0

  pub face_parent : (i : ℕ) → rule_at a s i ≡ Parent → rule_at a t i ≡ Parent
  face_parent i h = parent_from (λ c. 0) (rule_at a t i) (sym (face_rule i) ∙ ap (with_child (λ c. 0)) h)
