-- What the names in replies to `at` tell, and those of rings.
use Rattle.std.proofs.Common.{ℕ, ◌<◌, List, [], length, ap, subst}
use Rattle.tile_model.specs.Tessellations.{TileKind}
use Rattle.tile_model.specs.Validity.{IsValid}
use Rattle.tile_model.specs.Relation.{IsDistance}
use Rattle.tree_model.specs.Automata.{TreeAutomaton}
use Rattle.tree_model.specs.Conditions.{IsAccepted}
use Rattle.tree_model.specs.Positions.{Position}
use Rattle.tree_model.specs.Places.{IsPlace}
use Rattle.tree_laws.proofs.Together.{names_tell, places_tell}
use Rattle.tree_laws.proofs.Levels.{level}
use Rattle.tree_laws.proofs.RingTiles.{distance_ring}
use Rattle.reply_model.specs.declared.Command.TheVariants.{At}
use Rattle.reply_model.specs.declared.Reply.TheVariants.{At as AtPlace}
use Rattle.reply_model.specs.Histories.{History, walk_of}
use Rattle.reply_model.specs.Replies.{at_place}
use Rattle.reply_model.specs.WalkReadings.{IsWalkReply}
use Rattle.reply_laws.specs.Laws.{AnswersTellTiles, AnswersTellRelated, RingsListTiles}

abbrev position_of : List ℕ → ℕ → Position
position_of name spin = record { name = name; side = spin }

module _
    (kinds : List TileKind) (a : TreeAutomaton) (k : ℕ) (valid : IsValid kinds)
    (ok : IsAccepted kinds a) (known : k < length kinds)
  where
    placed :
        (h : History) {w : ℕ} {name : List ℕ} {spin kind : ℕ} →
        IsWalkReply kinds a k h (At w) (AtPlace name spin kind) →
        IsPlace kinds a k (walk_of h w) (position_of name spin)
    placed h (at_place w p e l) = l.is_place

    pub answers_tell_tiles : AnswersTellTiles kinds a k
    answers_tell_tiles h g w v m n s t i j x y =
        names_tell kinds a k valid ok known (walk_of h w) (walk_of g v) (position_of m s)
        (position_of n t) (placed h x) (placed g y)

    pub answers_tell_related : AnswersTellRelated kinds a k
    answers_tell_related h g w v m n s t i j x y =
        let told =
        places_tell kinds a k valid ok known (walk_of h w) (walk_of g v) (position_of m s)
        (position_of n t) (placed h x) (placed g y) in (
          (λ e. told.0 (cc (e.0, e.1))),
          (λ r.
              (ap (λ (p : Position). p.name) (told.1 r), ap (λ (p : Position). p.side) (told.1 r))),
        )

    pub rings_list_tiles : RingsListTiles kinds a k
    rings_list_tiles d names h w m s j ring x =
        let place = placed h x in
        let far = level kinds a k valid ok known (walk_of h w) (position_of m s) place in (
          (λ member.
              subst (λ n. IsDistance kinds (k, 0) [] (walk_of h w) n) ((ring.members m).0 member).1
              far),
          (λ away. distance_ring kinds a k valid ok known d names ring (walk_of h w)
              (position_of m s) away place),
        )
