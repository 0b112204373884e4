-- The reply to a command after a history, by a reading of its words.
use Rattle.std.specs.Prelude.{◌≡◌, ℕ, ◌<◌, ◌≤◌, ◌⊎◌, List, [], ◌++◌, length}
use Rattle.tile_model.specs.declared.Letter.{Letter}
use Rattle.tile_model.specs.Tessellations.{TileKind}
use Rattle.tile_model.specs.Walks.{type_of}
use Rattle.tree_model.specs.Limits.{deepest, most_listed}
use Rattle.tree_model.specs.Names.{word}
use Rattle.tree_model.specs.Positions.{Position}
use Rattle.reply_model.specs.declared.Command.{Command}
use Rattle.reply_model.specs.declared.Command.TheVariants.{New, Go, At, Same, Level, Dist, Path}
use Rattle.reply_model.specs.declared.Command.TheVariants.{Put, Get, Ring, Count}
use Rattle.reply_model.specs.declared.Reply.{Reply}
use Rattle.reply_model.specs.declared.Reply.TheVariants.{Done, Yes, No, NoWalker, Taken, Deep}
use Rattle.reply_model.specs.declared.Reply.TheVariants.{At as AtPlace, Level as AtLevel}
use Rattle.reply_model.specs.declared.Reply.TheVariants.{Dist as Apart, Path as Along}
use Rattle.reply_model.specs.declared.Reply.TheVariants.{Text, NoText, Tiles, Count as Counted}
use Rattle.reply_model.specs.declared.Reply.TheVariants.{Long, Far, TooBig, TooMany}
use Rattle.reply_model.specs.Histories.{History, Exists, walk_of}
use Rattle.reply_model.specs.Readings.{Reading}
use Rattle.reply_model.specs.Ways.{end_type, way_between, way_along_name}
use Rattle.reply_model.specs.Texts.{longest_text, IsLastText, IsBlank}
use Rattle.reply_model.specs.Sizes.{IsFirstTooBig, AreCounted}

-- The tile of the second walk is too far from that of the first.
pub record AreFar (reading : Reading) (u w : List Letter) : Type 0 where
  pub distance : ℕ
  pub apart : reading.AreApart u w distance
  pub far : deepest < distance

-- The walk, gone behind another one, passes a tile that is too far from that of the walk `home`.
pub record PassesFar (reading : Reading) (home before walk : List Letter) : Type 0 where
  pub prefix : List Letter
  pub rest : List Letter
  pub split : walk ≡ prefix ++ rest
  pub far : AreFar reading home (before ++ prefix)

-- In the tree of kind k, the path from the root to the tile of w passes a tile that is too far from
-- that of u.
pub record TreePathPassesFar (reading : Reading) (k : ℕ) (u w : List Letter) : Type 0 where
  pub place : Position
  pub placed : reading.HasPlace k w place
  pub passes : PassesFar reading u [] (word place.name)

module _ (kinds : List TileKind) (k : ℕ) (reading : Reading) (history : History) where
  -- the walk, gone behind that of w, passes a tile that is too far from the root
  abbrev pub GoesDeep : ℕ → List Letter → Type 0
  GoesDeep w u = PassesFar reading [] (walk_of history w) u

  -- where w stands: the place of its walk, and the kind of the type that its walk leads to
  abbrev pub at_place_of : ℕ → Position → Reply
  at_place_of w p = AtPlace p.name p.side (type_of kinds (k, 0) (walk_of history w)).0

  -- the path of the tree from the root to the tile of v passes a tile too far from that of w
  abbrev pub TreePathIsFar : ℕ → ℕ → Type 0
  TreePathIsFar w v = TreePathPassesFar reading k (walk_of history w) (walk_of history v)

  -- p is, in the tree whose root is the tile of w, the place of the tile of v
  abbrev pub HasPlaceFrom : ℕ → ℕ → Position → Type 0
  HasPlaceFrom w v p =
      reading.HasPlace (end_type kinds k (walk_of history w)).0
      (way_between kinds k (walk_of history w) (walk_of history v)) p

  -- the way from where w stands along the name of that place
  abbrev pub along_name_of : ℕ → Position → Reply
  along_name_of w p = Along (way_along_name (end_type kinds k (walk_of history w)).1 p.name)

  -- The reply to a command: of each command the refusals, in the order in which they are tried,
  -- and then what is answered where nothing refuses it.
  pub data IsReply : Command → Reply → Type 0 where
    new_taken : (w : ℕ) → Exists history w → IsReply (New w) Taken
    new_made : (w : ℕ) → ¬ (Exists history w) → IsReply (New w) Done
    go_nobody : (w : ℕ) (u : List Letter) → ¬ (Exists history w) → IsReply (Go w u) NoWalker
    go_deep : (w : ℕ) (u : List Letter) → Exists history w → GoesDeep w u → IsReply (Go w u) Deep
    go_gone :
        (w : ℕ) (u : List Letter) → Exists history w → ¬ (GoesDeep w u) → IsReply (Go w u) Done
    at_nobody : (w : ℕ) → ¬ (Exists history w) → IsReply (At w) NoWalker
    at_place :
        (w : ℕ) (p : Position)
        → Exists history w
        → reading.HasPlace k (walk_of history w) p
        → IsReply (At w) (at_place_of w p)
    same_nobody :
        (w v : ℕ) → (¬ (Exists history w)) ⊎ (¬ (Exists history v)) → IsReply (Same w v) NoWalker
    same_tile :
        (w v : ℕ)
        → Exists history w
        → Exists history v
        → reading.AreTogether (walk_of history w) (walk_of history v)
        → IsReply (Same w v) Yes
    other_tile :
        (w v : ℕ)
        → Exists history w
        → Exists history v
        → ¬ (reading.AreTogether (walk_of history w) (walk_of history v))
        → IsReply (Same w v) No
    level_nobody : (w : ℕ) → ¬ (Exists history w) → IsReply (Level w) NoWalker
    level_told :
        (w n : ℕ)
        → Exists history w
        → reading.AreApart [] (walk_of history w) n
        → IsReply (Level w) (AtLevel n)
    dist_nobody :
        (w v : ℕ) → (¬ (Exists history w)) ⊎ (¬ (Exists history v)) → IsReply (Dist w v) NoWalker
    dist_deep :
        (w v : ℕ) → Exists history w → Exists history v → TreePathIsFar w v → IsReply (Dist w v) Deep
    dist_told :
        (w v n : ℕ)
        → Exists history w
        → Exists history v
        → ¬ (TreePathIsFar w v)
        → reading.AreApart (walk_of history w) (walk_of history v) n
        → IsReply (Dist w v) (Apart n)
    path_nobody :
        (w v : ℕ) → (¬ (Exists history w)) ⊎ (¬ (Exists history v)) → IsReply (Path w v) NoWalker
    path_deep :
        (w v : ℕ) → Exists history w → Exists history v → TreePathIsFar w v → IsReply (Path w v) Deep
    path_told :
        (w v : ℕ) (p : Position)
        → Exists history w
        → Exists history v
        → ¬ (TreePathIsFar w v)
        → HasPlaceFrom w v p
        → IsReply (Path w v) (along_name_of w p)
    put_nobody : (w : ℕ) (text : List ℕ) → ¬ (Exists history w) → IsReply (Put w text) NoWalker
    put_long :
        (w : ℕ) (text : List ℕ)
        → Exists history w
        → longest_text < length text
        → IsReply (Put w text) Long
    put_written :
        (w : ℕ) (text : List ℕ)
        → Exists history w
        → length text ≤ longest_text
        → IsReply (Put w text) Done
    get_nobody : (w : ℕ) → ¬ (Exists history w) → IsReply (Get w) NoWalker
    get_text :
        (w : ℕ) (text : List ℕ)
        → Exists history w
        → IsLastText reading history (walk_of history w) text
        → IsReply (Get w) (Text text)
    get_nothing :
        (w : ℕ)
        → Exists history w
        → IsBlank reading history (walk_of history w)
        → IsReply (Get w) NoText
    ring_far : (d : ℕ) → deepest < d → IsReply (Ring d) Far
    ring_too_big :
        (d r : ℕ) → d ≤ deepest → IsFirstTooBig reading d r → IsReply (Ring d) (TooBig r)
    ring_too_many :
        (d n : ℕ)
        → d ≤ deepest
        → AreCounted reading d n
        → most_listed < n
        → IsReply (Ring d) (TooMany n)
    ring_told :
        (d n : ℕ)
        → d ≤ deepest
        → AreCounted reading d n
        → n ≤ most_listed
        → IsReply (Ring d) (Tiles d n)
    count_far : (d : ℕ) → deepest < d → IsReply (Count d) Far
    count_too_big :
        (d r : ℕ) → d ≤ deepest → IsFirstTooBig reading d r → IsReply (Count d) (TooBig r)
    count_told :
        (d n : ℕ) → d ≤ deepest → AreCounted reading d n → IsReply (Count d) (Counted n)
