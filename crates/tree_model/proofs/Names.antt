-- Names with a side more, the parent of a name, and the states reached.
use Rattle.std.proofs.Common.{◌≡◌, ℕ, ◌<◌, List, [], ◌∷◌, ◌++◌, length, refl, ap}
use Rattle.tile_model.specs.Tessellations.{TileKind}
use Rattle.tree_model.specs.declared.Rule.TheVariants.{Child}
use Rattle.tree_model.specs.Automata.{TreeAutomaton, rule_at, side_count}
use Rattle.tree_model.specs.Conditions.{IsClosedTable}
use Rattle.tree_model.specs.Names.{child_of, reached, IsNameBelow}
use Rattle.tree_model.specs.Positions.{parent, last_side}

-- a list is empty or has a last item
pub data LastView {A : Type 0} : List A → Type 0 where
  empty : LastView []
  last : (m : List A) (x : A) → LastView (m ++ x ∷ [])

pub last_view : {A : Type 0} (m : List A) → LastView m
last_view [] = empty
last_view (x ∷ m) = go (last_view m)
  where
    go : {l : List _} → LastView l → LastView (x ∷ l)
    go empty = last [] x
    go (last l y) = last (x ∷ l) y

pub parent_push : (m : List ℕ) (i : ℕ) → parent (m ++ i ∷ []) ≡ m
parent_push [] i = refl
parent_push (x ∷ []) i = refl
parent_push (x ∷ y ∷ m) i = ap (λ l. x ∷ l) (parent_push (y ∷ m) i)

pub last_side_push : (m : List ℕ) (i : ℕ) → last_side (m ++ i ∷ []) ≡ i
last_side_push [] i = refl
last_side_push (x ∷ []) i = refl
last_side_push (x ∷ y ∷ m) i = last_side_push (y ∷ m) i

module _ (kinds : List TileKind) (a : TreeAutomaton) where
  pub reached_push : (s : ℕ) (m : List ℕ) (i : ℕ) → reached a s (m ++ i ∷ []) ≡ child_of (rule_at a (reached a s m) i)
  reached_push s [] i = refl
  reached_push s (j ∷ m) i = reached_push (child_of (rule_at a s j)) m i

  pub name_push : (s : ℕ) (m : List ℕ) (i : ℕ) → IsNameBelow kinds a s m → i < side_count kinds a (reached a s m) → rule_at a (reached a s m) i ≡ Child (child_of (rule_at a (reached a s m) i)) → IsNameBelow kinds a s (m ++ i ∷ [])
  name_push s [] i n h e = (h, e, tt)
  name_push s (j ∷ m) i n h e = (n.0, n.1, name_push (child_of (rule_at a s j)) m i n.2 h e)

  -- the last side of a name is a Child side of its parent
  pub record HasLast (s : ℕ) (m : List ℕ) (i : ℕ) : Type 0 where
    pub front : IsNameBelow kinds a s m
    pub side : i < side_count kinds a (reached a s m)
    pub child : rule_at a (reached a s m) i ≡ Child (child_of (rule_at a (reached a s m) i))

  pub name_last : (s : ℕ) (m : List ℕ) (i : ℕ) → IsNameBelow kinds a s (m ++ i ∷ []) → HasLast s m i
  name_last s [] i n = record { front = tt; side = n.0; child = n.1 }
  name_last s (j ∷ m) i n = let r = name_last (child_of (rule_at a s j)) m i n.2 in record { front = (n.0, n.1, r.front); side = r.side; child = r.child }

  -- a name reaches a state
  pub name_state : IsClosedTable kinds a → (s : ℕ) (m : List ℕ) → s < length a.states → IsNameBelow kinds a s m → reached a s m < length a.states
  name_state closed s [] h n = h
  name_state closed s (i ∷ m) h n = name_state closed (child_of (rule_at a s i)) m ((closed.targets s h).child i (child_of (rule_at a s i)) n.0 n.1) n.2
