-- Over the tree, a walk comes too far from the root where it leads to a name that is too long.
use Rattle.std.proofs.Common.{ℕ, ◌<◌, List, [], length, refl, subst, sym}
use Rattle.tile_model.specs.declared.Letter.{Letter}
use Rattle.tile_model.specs.Tessellations.{TileKind}
use Rattle.tree_model.specs.Automata.{TreeAutomaton}
use Rattle.tree_model.specs.Limits.{deepest}
use Rattle.tree_model.specs.Positions.{Position}
use Rattle.reply_model.specs.Replies.{AreFar}
use Rattle.reply_model.specs.TreeReadings.{LeadsTo, tree_reading}

module _ (kinds : List TileKind) (a : TreeAutomaton) (k : ℕ) where
  -- the walk leads to a name that is too long
  pub record LeadsDeep (u : List Letter) : Type 0 where
    pub place : Position
    pub led : LeadsTo kinds a k u place
    pub deep : deepest < length place.name

  pub far_from_deep : (u : List Letter) → LeadsDeep u → AreFar (tree_reading kinds a k) [] u
  far_from_deep u d = record {
    distance = length d.place.name;
    apart = record { place = d.place; led = d.led; sides = refl };
    far = d.deep;
  }

  pub deep_from_far : (u : List Letter) → AreFar (tree_reading kinds a k) [] u → LeadsDeep u
  deep_from_far u f = record {
    place = f.apart.place;
    led = f.apart.led;
    deep = subst (λ n. deepest < n) (sym f.apart.sides) f.far;
  }
