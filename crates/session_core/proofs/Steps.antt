-- What a command does to the spots of a session, and what the session answers.
use Rattle.std.specs.Prelude.{◌≡◌, ◌≢◌, ℕ, ◌<◌, ◌≤◌, ◌⊎◌, List, [], length, slice_set, Option, None, Some, IsSome}
use Rattle.tile_model.specs.declared.Letter.{Letter}
use Rattle.tree_model.specs.Automata.{state_at}
use Rattle.tree_model.specs.Limits.{deepest}
use Rattle.tree_model.specs.Positions.{root}
use Rattle.tree_model.specs.Names.{word}
use Rattle.tree_model.specs.Positions.{Position}
use Rattle.tile_model.specs.Walks.{type_of}
use Rattle.tile_model.specs.Relation.{IsDistance}
use Rattle.tree_laws.specs.Laws.{IsPlaceFrom, way_to}
use Rattle.structure_check.specs.Rules.{TreeRules}
use Rattle.turn_rules.specs.Spots.{TreeSpot, IsAt, position, root_kind, tile_state}
use Rattle.step_engine.specs.Crossings.{WalkLeadsTo, WalksDeep, StandsAfter}
use Rattle.cell_distance.specs.Passing.{WalkPassesFar}
use Rattle.reply_model.specs.declared.Command.{Command}
use Rattle.reply_model.specs.declared.Command.TheVariants.{New, Go, At, Same, Level, Dist, Path, Put, Get}
use Rattle.reply_model.specs.declared.Reply.{Reply}
use Rattle.reply_model.specs.declared.Reply.TheVariants.{Done, At as AtPlace, Yes, No, NoWalker, Taken, Deep}
use Rattle.reply_model.specs.declared.Reply.TheVariants.{Level as AtLevel, Dist as Apart, Path as Along}
use Rattle.reply_model.specs.declared.Reply.TheVariants.{Text, NoText, Long}
use Rattle.reply_model.specs.Histories.{History}
use Rattle.reply_model.specs.Texts.{longest_text}
use Rattle.lazy_map.specs.Texts.{Texts, text_under}
use Rattle.session_core.specs.Sessions.{SessionState, walker_at, IsWalker, IsDueOverTree}

-- the session with walker w at spot s, and all others as they are
abbrev pub with_walker : SessionState → ℕ → TreeSpot → SessionState
with_walker session w s = record {
  rules = session.rules;
  kind = session.kind;
  walkers = slice_set session.walkers w (Some s);
  texts = session.texts;
}

-- the session with other texts on tiles
abbrev pub with_texts : SessionState → Texts → SessionState
with_texts session texts = record {
  rules = session.rules;
  kind = session.kind;
  walkers = session.walkers;
  texts = texts;
}

-- The text is put under the name, and all other names keep what they have.
pub record HasPut (before : Texts) (name text : List ℕ) (after : Texts) : Type 0 where
  pub put : text_under after name ≡ Some text
  pub others : (other : List ℕ) → other ≢ name → text_under after other ≡ text_under before other

-- the reply that tells what is kept for a tile
abbrev pub told_text : Option (List ℕ) → Reply
told_text None = NoText
told_text (Some text) = Text text

-- A spot has gone along a walk to another one, and no crossing on the way lies too deep.
pub record HasGone (session : SessionState) (s t : TreeSpot) (walk : List Letter) : Type 0 where
  pub walker : IsWalker session.rules session.kind t
  pub leads : WalkLeadsTo session.rules s walk (position t)
  pub near : ¬ (WalksDeep session.rules s walk deepest)

-- The path from the root to the tile of the second spot passes a tile too far from the first spot.
abbrev pub IsFarPath : TreeRules → TreeSpot → TreeSpot → Type 0
IsFarPath rules s t =
    (u : List Letter) → StandsAfter rules s u →
    WalkPassesFar rules.kinds (root_kind rules s, 0) u [] (word t.name)

-- It passes none.
abbrev pub IsNearPath : TreeRules → TreeSpot → TreeSpot → Type 0
IsNearPath rules s t =
    (u : List Letter) → StandsAfter rules s u →
    WalkPassesFar rules.kinds (root_kind rules s, 0) u [] (word t.name) → ⊥

-- The second spot is n crossings away from the first.
abbrev pub AreSpotsApart : TreeRules → TreeSpot → TreeSpot → ℕ → Type 0
AreSpotsApart rules s t n =
    (u w : List Letter) → StandsAfter rules s u → StandsAfter rules t w →
    IsDistance rules.kinds (root_kind rules s, 0) u w n

-- The walk is the one along the name of the tile of t in the tree whose root is the tile of s.
abbrev pub IsAlongName : TreeRules → TreeSpot → TreeSpot → List Letter → Type 0
IsAlongName rules s t z =
    (u w : List Letter) (p : Position) → StandsAfter rules s u → StandsAfter rules t w →
    IsPlaceFrom rules.kinds rules.automaton (root_kind rules s) u w p →
    z ≡ way_to (type_of rules.kinds (root_kind rules s, 0) u).1 p.name

-- The command has the reply, and makes the second session of the first.
pub data Does (session : SessionState) : Command → Reply → SessionState → Type 0 where
  taken : (w : ℕ) → IsSome (walker_at session w) → Does session (New w) Taken session
  made :
      (w : ℕ) (s : TreeSpot) → walker_at session w ≡ None → IsAt session.rules session.kind root s →
      Does session (New w) Done (with_walker session w s)
  go_nobody :
      (w : ℕ) (walk : List Letter) → walker_at session w ≡ None →
      Does session (Go w walk) NoWalker session
  stopped :
      (w : ℕ) (walk : List Letter) (s : TreeSpot) → walker_at session w ≡ Some s →
      WalksDeep session.rules s walk deepest → Does session (Go w walk) Deep session
  gone :
      (w : ℕ) (walk : List Letter) (s t : TreeSpot) → walker_at session w ≡ Some s →
      HasGone session s t walk → Does session (Go w walk) Done (with_walker session w t)
  at_nobody : (w : ℕ) → walker_at session w ≡ None → Does session (At w) NoWalker session
  at_spot :
      (w : ℕ) (s : TreeSpot) → walker_at session w ≡ Some s →
      Does session (At w)
      (AtPlace s.name s.spin (state_at session.rules.automaton (tile_state session.rules s)).kind)
      session
  same_nobody :
      (w v : ℕ) → (walker_at session w ≡ None) ⊎ (walker_at session v ≡ None) →
      Does session (Same w v) NoWalker session
  one_tile :
      (w v : ℕ) (s t : TreeSpot) → walker_at session w ≡ Some s → walker_at session v ≡ Some t →
      s.name ≡ t.name → Does session (Same w v) Yes session
  two_tiles :
      (w v : ℕ) (s t : TreeSpot) → walker_at session w ≡ Some s → walker_at session v ≡ Some t →
      s.name ≢ t.name → Does session (Same w v) No session
  level_nobody : (w : ℕ) → walker_at session w ≡ None → Does session (Level w) NoWalker session
  level_spot :
      (w : ℕ) (s : TreeSpot) → walker_at session w ≡ Some s →
      Does session (Level w) (AtLevel (length s.name)) session
  dist_nobody :
      (w v : ℕ) → (walker_at session w ≡ None) ⊎ (walker_at session v ≡ None) →
      Does session (Dist w v) NoWalker session
  dist_far :
      (w v : ℕ) (s t : TreeSpot) → walker_at session w ≡ Some s → walker_at session v ≡ Some t →
      IsFarPath session.rules s t → Does session (Dist w v) Deep session
  dist_spots :
      (w v n : ℕ) (s t : TreeSpot) → walker_at session w ≡ Some s → walker_at session v ≡ Some t →
      IsNearPath session.rules s t → AreSpotsApart session.rules s t n →
      Does session (Dist w v) (Apart n) session
  path_nobody :
      (w v : ℕ) → (walker_at session w ≡ None) ⊎ (walker_at session v ≡ None) →
      Does session (Path w v) NoWalker session
  path_far :
      (w v : ℕ) (s t : TreeSpot) → walker_at session w ≡ Some s → walker_at session v ≡ Some t →
      IsFarPath session.rules s t → Does session (Path w v) Deep session
  path_spots :
      (w v : ℕ) (z : List Letter) (s t : TreeSpot) → walker_at session w ≡ Some s →
      walker_at session v ≡ Some t → IsNearPath session.rules s t → IsAlongName session.rules s t z →
      Does session (Path w v) (Along z) session
  put_nobody :
      (w : ℕ) (text : List ℕ) → walker_at session w ≡ None →
      Does session (Put w text) NoWalker session
  put_long :
      (w : ℕ) (text : List ℕ) (s : TreeSpot) → walker_at session w ≡ Some s →
      longest_text < length text → Does session (Put w text) Long session
  put_written :
      (w : ℕ) (text : List ℕ) (s : TreeSpot) (texts : Texts) → walker_at session w ≡ Some s →
      length text ≤ longest_text → HasPut session.texts s.name text texts →
      Does session (Put w text) Done (with_texts session texts)
  get_nobody : (w : ℕ) → walker_at session w ≡ None → Does session (Get w) NoWalker session
  get_told :
      (w : ℕ) (s : TreeSpot) → walker_at session w ≡ Some s →
      Does session (Get w) (told_text (text_under session.texts s.name)) session
  measured :
      (c : Command) (x : Reply) → (x ≡ Done → ⊥) →
      ((h : History) → IsDueOverTree session h c x) → Does session c x session
