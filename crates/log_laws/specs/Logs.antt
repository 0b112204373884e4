-- What is written down along the contour of the tree, as a list of changes: the log of a crossing.
use Rattle.std.specs.Prelude.{ℕ, zero, suc, true, false, List, [], ◌∷◌, ◌++◌, length, nat_eq, if◌then◌else◌}
use Rattle.tile_model.specs.declared.Letter.{Letter}
use Rattle.tile_model.specs.Tessellations.{TileKind}
use Rattle.tile_model.specs.Relation.{Change}
use Rattle.tile_model.proofs.Relations.{all_reverted}
use Rattle.tree_model.specs.declared.Rule.{Rule}
use Rattle.tree_model.specs.declared.Rule.TheVariants.{Parent, Child, Left, Right}
use Rattle.tree_model.specs.Automata.{TreeAutomaton, side_count}
use Rattle.tree_model.specs.Contours.{Mark, Tree, Opens, Closes, FreeWay, stay, tree, nested, AreMatched}
use Rattle.tree_model.specs.Names.{state_of, word}
use Rattle.tree_model.specs.Positions.{Position, turn_left, turn_right, rule_of, hop, mark, MatchesLeftwards}
use Rattle.tree_model.specs.Places.{position_word}

-- a loop of this number is inserted behind as many letters, or deleted there
abbrev pub inserted : (at loop : ℕ) → Change
inserted at loop = record { at = at; loop = loop; insert = true }

abbrev pub deleted : (at loop : ℕ) → Change
deleted at loop = record { at = at; loop = loop; insert = false }

-- Each place has a word. What a turn to the left writes, and what the crossing of a side of the
-- tree writes.
pub record Words (P : Type 0) : Type 0 where
  pub word : P → List Letter
  pub turn : P → List Change
  pub across : P → List Change

module _ (P : Type 0) (left hop : P → P) (mark : P → Mark) (words : Words P) where
  -- What is written along a free way. Where a bracket opens, the loop round its corner is inserted.
  -- Where it closes, the crossing there and the one that waited are deleted.
  abbrev pub way_log : {x w : P} → FreeWay P left hop mark x w → List Change
  way_log (stay e) = []
  way_log {x} (tree t r) = words.turn x ++ (words.across (left x) ++ way_log r)
  way_log {x} (nested v o a k b) =
      words.turn x ++ (inserted (length (words.word (left x))) 5 ∷ (way_log a
      ++ (words.turn v ++ (deleted (length (words.word (left v))) 1 ∷ way_log b))))

  -- from an opening side to the one that is matched with it
  abbrev pub match_log : {x y : P} → AreMatched P left hop mark x y → List Change
  match_log {x} {y} m =
      inserted (length (words.word x)) 5 ∷ (way_log m.way
      ++ (words.turn m.last ++ (deleted (length (words.word (left m.last))) 1 ∷ [])))

  -- What is written behind a turn to q, where `more` tells what is written from there.
  abbrev pub logged_at : P → (P → ℕ → List Change) → Mark → ℕ → List Change
  logged_at q more Tree c = words.across q ++ more (hop q) c
  logged_at q more Opens c = inserted (length (words.word q)) 5 ∷ more q (suc c)
  logged_at q more Closes zero = deleted (length (words.word q)) 1 ∷ []
  logged_at q more Closes (suc zero) = deleted (length (words.word q)) 1 ∷ []
  logged_at q more Closes (suc (suc e)) = deleted (length (words.word q)) 1 ∷ more q (suc e)

  -- What the walk with a counter writes from z on, about to turn, with c brackets open, up to a
  -- bound on the moves.
  abbrev pub logged : ℕ → P → ℕ → List Change
  logged zero z c = []
  logged (suc f) z c = words.turn z ++ logged_at (left z) (logged f) (mark (left z)) c

-- what the crossing of a side of the tree writes: nothing to a child, and XX deleted to the parent,
-- whose position is q
abbrev pub across_log : Rule → Position → List Change
across_log Parent q = deleted (length (position_word q)) 1 ∷ []
across_log (Child c) q = []
across_log Left q = []
across_log Right q = []

module _ (kinds : List TileKind) (a : TreeAutomaton) (k : ℕ) where
  -- what a turn to the left writes: nothing but past the last side, where a full turn is deleted
  abbrev pub turn_log : Position → List Change
  turn_log p =
      if nat_eq (suc p.side) (side_count kinds a (state_of a k p.name))
      then deleted (length (word p.name)) 4 ∷ [] else []

  -- What a turn to the right writes: where it passes the first side, a full turn is inserted; and LR
  -- is deleted.
  abbrev pub right_log : Position → List Change
  right_log p =
      all_reverted (turn_log (turn_right kinds a k p))
      ++ (deleted (length (position_word (turn_right kinds a k p))) 2 ∷ [])

  abbrev pub tree_words : Words Position
  tree_words = record {
    word = position_word;
    turn = turn_log;
    across = λ p. across_log (rule_of kinds a k p) (hop kinds a k p);
  }

  -- the log of the crossing from a Left side to the Right side that is matched with it
  abbrev pub crossing_log : {x y : Position} → MatchesLeftwards kinds a k x y → List Change
  crossing_log =
      match_log Position (turn_left kinds a k) (hop kinds a k) (mark kinds a k) tree_words

  -- what the walk along the contour writes, up to a bound on the moves
  abbrev pub contour_log : ℕ → Position → ℕ → List Change
  contour_log = logged Position (turn_left kinds a k) (hop kinds a k) (mark kinds a k) tree_words
