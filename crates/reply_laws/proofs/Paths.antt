-- The walk in a reply to `path` is a shortest one.
use Rattle.std.proofs.Common.{◌≡◌, ℕ, ◌<◌, List, [], ◌∷◌, length, refl, subst}
use Rattle.tile_model.specs.declared.Letter.{Letter}
use Rattle.tile_model.specs.Tessellations.{TileKind}
use Rattle.tile_model.specs.Validity.{IsValid}
use Rattle.tree_model.specs.Automata.{TreeAutomaton}
use Rattle.tree_model.specs.Conditions.{IsAccepted}
use Rattle.tree_laws.specs.Laws.{IsShortestWay, way_to}
use Rattle.tree_laws.proofs.Between.{shortest_way}
use Rattle.reply_model.specs.declared.Command.TheVariants.{Path}
use Rattle.reply_model.specs.declared.Reply.TheVariants.{Path as Along}
use Rattle.reply_model.specs.Histories.{History, walk_of}
use Rattle.reply_model.specs.Replies.{path_told}
use Rattle.reply_model.specs.Ways.{end_type, way_along_name}
use Rattle.reply_model.specs.WalkReadings.{IsWalkReply}
use Rattle.reply_laws.specs.Laws.{PathsAreShortest}

-- the way along a name is that to it
one_way : (s : ℕ) (name : List ℕ) → way_to s name ≡ way_along_name s name
one_way s [] = refl
one_way s (i ∷ name) = refl

module _
    (kinds : List TileKind) (a : TreeAutomaton) (k : ℕ) (valid : IsValid kinds)
    (ok : IsAccepted kinds a) (known : k < length kinds)
  where
    pub paths_are_shortest : PathsAreShortest kinds a k
    paths_are_shortest h w v _ (path_told _ _ p e f near place) =
        let way = shortest_way kinds a k valid ok known (walk_of h w) (walk_of h v) p place.is_place in
        let side = (end_type kinds k (walk_of h w)).1 in
        subst (λ z. IsShortestWay kinds (k, 0) (walk_of h w) (walk_of h v) z)
        (one_way side p.name) way
