-- Trees with the same names have tiles of the same types, so walks have the same places, and the
-- replies are the same.
use Rattle.std.proofs.Common.{◌≡◌, ◌↔◌, ℕ, ◌+◌, ◌%◌, ◌<◌, List, [], ◌∷◌, length, refl, sym, ap, ap₂, ◌∙◌, subst, arith}
use Rattle.std.specs.Prelude.{Option}
use Rattle.tile_model.specs.declared.Letter.{Letter}
use Rattle.tile_model.specs.Tessellations.{TileKind, kind_at, cross}
use Rattle.tile_model.specs.Validity.{IsValid}
use Rattle.tree_model.specs.Automata.{TreeAutomaton, state_at, root_at, rule_at, side_count, type_at}
use Rattle.tree_model.specs.Conditions.{IsAccepted}
use Rattle.tree_model.specs.Names.{child_of, reached, IsNameBelow, IsName, state_of}
use Rattle.tree_model.specs.Positions.{Position}
use Rattle.tree_model.specs.Places.{IsPlace}
use Rattle.reply_model.specs.declared.Command.{Command}
use Rattle.reply_model.specs.declared.Reply.{Reply}
use Rattle.reply_model.specs.Histories.{History}
use Rattle.reply_model.specs.WalkReadings.{IsThePlace, walk_reading, IsWalkReply}
use Rattle.reply_model.specs.TreeReadings.{IsTreeReply}
use Rattle.reply_laws.specs.Laws.{SayTheSame}
use Rattle.reply_laws.proofs.Alike.{the_other_way, read_again}
use Rattle.reply_laws.proofs.BothReadings.{end_known}
use Rattle.reply_laws.proofs.Together.{replies_agree}
use Rattle.merge_model.specs.Merging.{IsMerged}
use Rattle.merge_laws.proofs.Conditions.{merged_accepted}
use Rattle.merge_laws.proofs.Trees.{names_stay}
use Rattle.same_replies.specs.Laws.{HaveOneTree, TreeRepliesStay, WalkRepliesStay, RepliesStay}

module _ (kinds : List TileKind) (a b : TreeAutomaton) (valid : IsValid kinds) (ok : IsAccepted kinds a) (ok' : IsAccepted kinds b) (one : HaveOneTree kinds a b) where
  -- the tiles of two states have the same types
  record AreOfOneType (s t : ℕ) : Type 0 where
    kind : (state_at a s).kind ≡ (state_at b t).kind
    off : (state_at a s).off ≡ (state_at b t).off

  sides_same : (s t : ℕ) → AreOfOneType s t → side_count kinds a s ≡ side_count kinds b t
  unfolding side_count
  sides_same s t h = ap (λ k. (kind_at kinds k).sides) h.kind

  types_same : (s t i : ℕ) → AreOfOneType s t → type_at kinds a s i ≡ type_at kinds b t i
  unfolding type_at
  types_same s t i h = ap₂ (λ k o. (k, (o + i) % (kind_at kinds k).repeat)) h.kind h.off

  -- the states that one name reaches
  reached_types : (s t : ℕ) (name : List ℕ) → s < length a.states → t < length b.states → AreOfOneType s t → IsNameBelow kinds a s name → IsNameBelow kinds b t name → AreOfOneType (reached a s name) (reached b t name)
  reached_types s t [] ls lt h n m = h
  reached_types s t (i ∷ name) ls lt h n m =
      let c = child_of (rule_at a s i) in
      let d = child_of (rule_at b t i) in
      let across = sym (ok.c3 s i ls n.0 c n.1) ∙ ap (cross kinds) (types_same s t i h) ∙ ok'.c3 t i lt m.0 d m.1 in
      reached_types c d name ((ok.c1.targets s ls).child i c n.0 n.1) ((ok'.c1.targets t lt).child i d m.0 m.1)
      (record { kind = ap (λ p. p.0) across; off = ap (λ p. p.1) across }) n.2 m.2

  sides_positive : (c : TreeAutomaton) → IsAccepted kinds c → (s : ℕ) → s < length c.states → 0 < side_count kinds c s
  unfolding side_count
  sides_positive c accepted s ls = let three = (valid.sides (state_at c s).kind (accepted.c1.tables s ls).kind).0 in omega (arith, three)

  root_type : (c : TreeAutomaton) → IsAccepted kinds c → (k : ℕ) → k < length kinds → ((state_at c (root_at c k)).kind ≡ k) × ((state_at c (root_at c k)).off ≡ 0)
  root_type c accepted k known =
      let ls = accepted.c1.root k known in
      (accepted.c2 (root_at c k) 0 ls (sides_positive c accepted (root_at c k) ls)).root refl k known refl

  root_types : (k : ℕ) → k < length kinds → AreOfOneType (root_at a k) (root_at b k)
  root_types k known =
      let p = root_type a ok k known in
      let q = root_type b ok' k known in
      record { kind = p.0 ∙ sym q.0; off = p.1 ∙ sym q.1 }

  sides_at : (k : ℕ) → k < length kinds → (name : List ℕ) → IsName kinds a k name → IsName kinds b k name → side_count kinds a (state_of a k name) ≡ side_count kinds b (state_of b k name)
  sides_at k known name n m =
      sides_same (state_of a k name) (state_of b k name)
      (reached_types (root_at a k) (root_at b k) name (ok.c1.root k known) (ok'.c1.root k known) (root_types k known) n m)

  place_there : (k : ℕ) → k < length kinds → (u : List Letter) (p : Position) → IsPlace kinds a k u p → IsPlace kinds b k u p
  place_there k known u p h =
      let m = (one k known p.name).0 h.position.name in
      record {
        position = record { name = m; side = subst (λ n. p.side < n) (sides_at k known p.name h.position.name m) h.position.side };
        related = h.related;
      }

  place_back : (k : ℕ) → k < length kinds → (u : List Letter) (p : Position) → IsPlace kinds b k u p → IsPlace kinds a k u p
  place_back k known u p h =
      let n = (one k known p.name).1 h.position.name in
      record {
        position = record { name = n; side = subst (λ j. p.side < j) (sym (sides_at k known p.name n h.position.name)) h.position.side };
        related = h.related;
      }

  the_place : (k : ℕ) → k < length kinds → (u : List Letter) (p : Position) → IsThePlace kinds a k u p ↔ IsThePlace kinds b k u p
  the_place k known u p = (
    (λ h. record { is_place = place_there k known u p h.is_place; no_other = λ q g. h.no_other q (place_back k known u q g) }),
    (λ h. record { is_place = place_back k known u p h.is_place; no_other = λ q g. h.no_other q (place_there k known u q g) }),
  )

  module _ (k : ℕ) (known : k < length kinds) where
    readings_same : SayTheSame kinds (walk_reading kinds a k) (walk_reading kinds b k)
    readings_same = record {
      places = the_place;
      tiles = λ u w. ((λ h. h), (λ h. h));
      distances = λ u w n. ((λ h. h), (λ h. h));
      sizes = λ d n. ((λ h. h), (λ h. h));
    }

    walks_same : (h : History) (c : Command) (x : Reply) → IsWalkReply kinds a k h c x ↔ IsWalkReply kinds b k h c x
    walks_same h c x = (
      (λ d. read_again kinds k (end_known kinds a valid ok k known) readings_same h d),
      (λ d. read_again kinds k (end_known kinds a valid ok k known) (the_other_way readings_same) h d),
    )

    trees_same : (h : History) (c : Command) (x : Reply) → IsTreeReply kinds a k h c x ↔ IsTreeReply kinds b k h c x
    trees_same h c x =
        let first = replies_agree kinds a k valid ok known h c x in
        let middle = walks_same h c x in
        let last = replies_agree kinds b k valid ok' known h c x in
        ((λ d. last.1 (middle.0 (first.0 d))), (λ d. first.1 (middle.1 (last.0 d))))

  pub tree_replies : TreeRepliesStay kinds a b
  tree_replies k known h c x = trees_same k known h c x

  pub walk_replies : WalkRepliesStay kinds a b
  walk_replies k known h c x = walks_same k known h c x

pub merged_replies : (kinds : List TileKind) (a : TreeAutomaton) (classes : List (Option ℕ)) (b : TreeAutomaton) → IsValid kinds → IsAccepted kinds a → IsMerged kinds a classes b → RepliesStay kinds a b
merged_replies kinds a classes b valid ok merged =
    let ok' = merged_accepted kinds a classes b valid ok merged in
    let one = names_stay kinds a classes b valid ok merged in
    (tree_replies kinds a b valid ok ok' one, walk_replies kinds a b valid ok ok' one)
