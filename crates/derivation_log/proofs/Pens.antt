-- What a pen writes: on turns, across sides of the tree, and on a move along the contour.
use Rattle.std.proofs.Common.{◌≡◌, ◌≢◌, ℕ, zero, suc, ◌+◌, Bool, false, nat_eq, List, [], ◌∷◌, ◌++◌, length, refl, sym, ap, ap₂, ◌∙◌, subst, arith, append-nil}
use Rattle.std.proofs.lemmas.List.{length_push}
use Rattle.tile_model.specs.Tessellations.{TileKind}
use Rattle.tile_model.specs.Relation.{Change}
use Rattle.structure_check.specs.Rules.{TreeRules, AreSound}
use Rattle.tree_model.specs.declared.Rule.{Rule}
use Rattle.tree_model.specs.declared.Rule.TheVariants.{Parent, Child, Left, Right}
use Rattle.tree_model.specs.Automata.{TreeAutomaton, side_count}
use Rattle.tree_model.specs.Contours.{Mark, Tree, Opens, Closes}
use Rattle.tree_model.specs.Names.{state_of, word}
use Rattle.tree_model.specs.Positions.{Position, IsPosition, parent, last_side, tree_across, mark_of_rule, turn_left, turn_right, hop, mark, rule_of}
use Rattle.tree_model.specs.Places.{position_word}
use Rattle.tree_model.proofs.Sides.{next_last, next_zero}
use Rattle.tree_model.proofs.Positions.{make_position, parent_up}
use Rattle.spot_laws.specs.Spots.{IsSpot, IsAt, IsAtChild, IsAtParent, position, root_kind, faced_rule}
use Rattle.log_laws.specs.Logs.{inserted, deleted, turn_log, across_log, tree_words, contour_log, logged_at}
use Rattle.derivation_log.specs.Drafts.{IsWritten}
use Rattle.derivation_log.specs.Pens.{at, home, mark_at, open_log, HasWritten, HasTurnedLeft, HasTurnedRight, HasHopped, HasMoved}
use Rattle.derivation_log.specs.declared.pen.Pen.{Pen}
use Rattle.derivation_log.proofs.Drafts.{written_none, written_more}

-- a turn writes where it passes the last side, and nowhere else
module _ (kinds : List TileKind) (a : TreeAutomaton) (k : ℕ) (p : Position) (h : IsPosition kinds a k p) where
  pub turn_over : (turn_left kinds a k p).side ≡ 0 → turn_log kinds a k p ≡ deleted (length (word p.name)) 4 ∷ []
  turn_over e =
      let last = next_zero (side_count kinds a (state_of a k p.name)) p.side h.side e in
      grind (arith, last)

  pub turn_within : (turn_left kinds a k p).side ≢ 0 → turn_log kinds a k p ≡ []
  turn_within n =
      let inner : suc p.side ≢ side_count kinds a (state_of a k p.name) = λ e. n (next_last (side_count kinds a (state_of a k p.name)) p.side e) in
      grind (arith, inner)

-- what is written before a turn to the right
pub opens_over : (p : Position) (n : ℕ) (log log' : List Change) → p.side ≡ 0 → n ≡ length (word p.name) → IsWritten log (inserted n 4 ∷ []) log' → IsWritten log (open_log p) log'
opens_over p n log log' z e w =
    let same : open_log p ≡ inserted (length (word p.name)) 4 ∷ [] = grind (arith, z) in
    subst (λ l. IsWritten log l log') (ap (λ m. inserted m 4 ∷ []) e ∙ sym same) w

pub opens_within : (p : Position) (log : List Change) → p.side ≢ 0 → IsWritten log (open_log p) log
opens_within p log z =
    let same : open_log p ≡ [] = grind (arith, z) in
    subst (λ l. IsWritten log l log) (sym same) (written_none log)

-- from a closing side one change is written, however many brackets are open
closes_log : (kinds : List TileKind) (a : TreeAutomaton) (k : ℕ) (x : Position) (c : ℕ) → logged_at Position (turn_left kinds a k) (hop kinds a k) (mark kinds a k) (tree_words kinds a k) x (λ p e. []) Closes c ≡ deleted (length (position_word x)) 1 ∷ []
closes_log kinds a k x zero = refl
closes_log kinds a k x (suc zero) = refl
closes_log kinds a k x (suc (suc c)) = refl

module _ (r : TreeRules) where
  pub turned_over : (p p' : Pen) (n : ℕ) → IsSpot r p.place → IsAt r (home r p) (turn_left r.kinds r.automaton (home r p) (at p)) p'.place → p'.place.spin ≡ 0 → n ≡ length (word p'.place.name) → IsWritten p.log (deleted n 4 ∷ []) p'.log → HasTurnedLeft r p p'
  turned_over p p' n h place z e log =
      let side = ap (λ (q : Position). q.side) (sym place.stands) ∙ z in
      let name = ap (λ (q : Position). length (word q.name)) place.stands in
      let same = turn_over r.kinds r.automaton (home r p) (at p) h.there side in
      let wrote = subst (λ m. IsWritten p.log (deleted m 4 ∷ []) p'.log) (e ∙ name) log in
      record { place = place; log = subst (λ l. IsWritten p.log l p'.log) (sym same) wrote }

  pub turned_within : (p p' : Pen) → IsSpot r p.place → IsAt r (home r p) (turn_left r.kinds r.automaton (home r p) (at p)) p'.place → p'.place.spin ≢ 0 → p'.log ≡ p.log → HasTurnedLeft r p p'
  turned_within p p' h place n e =
      let side : (turn_left r.kinds r.automaton (home r p) (at p)).side ≢ 0 = λ z. n (ap (λ (q : Position). q.side) place.stands ∙ z) in
      let same = turn_within r.kinds r.automaton (home r p) (at p) h.there side in
      let wrote = subst (λ l. IsWritten p.log [] l) (sym e) (written_none p.log) in
      record { place = place; log = subst (λ l. IsWritten p.log l p'.log) (sym same) wrote }

  pub turned_right : (p q s : Pen) (n : ℕ) → q.place ≡ p.place → IsAt r (root_kind r q.place) (turn_right r.kinds r.automaton (root_kind r q.place) (position q.place)) s.place → n ≡ length (position_word (at s)) → IsWritten p.log (open_log (at p)) q.log → IsWritten q.log (deleted n 2 ∷ []) s.log → HasTurnedRight r p s
  turned_right p q s n same there e opened deletes =
      let place : IsAt r (home r p) (turn_right r.kinds r.automaton (home r p) (at p)) s.place = subst (λ t. IsAt r (root_kind r t) (turn_right r.kinds r.automaton (root_kind r t) (position t)) s.place) same there in
      let wrote = subst (λ m. IsWritten q.log (deleted m 2 ∷ []) s.log) (e ∙ ap (λ z. length (position_word z)) place.stands) deletes in
      record { place = place; log = written_more p.log (open_log (at p)) q.log (deleted (length (position_word (turn_right r.kinds r.automaton (home r p) (at p)))) 2 ∷ []) s.log opened wrote }

  -- a pen that has written, and then written more
  pub then : (p q s : Pen) (y z : Position) (first second : List Change) → HasWritten r p y first q → HasWritten r q z second s → HasWritten r p z (first ++ second) s
  then p q s y z first second h g = record {
    place = record { spot = g.place.spot; tree = g.place.tree ∙ h.place.tree; stands = g.place.stands };
    log = written_more p.log first q.log second s.log h.log g.log;
  }

  -- it stands where it has come to
  pub settled : (p q : Pen) (y : Position) (changes : List Change) → HasWritten r p y changes q → HasWritten r p (at q) changes q
  settled p q y changes h = record { place = record { spot = h.place.spot; tree = h.place.tree; stands = refl }; log = h.log }

  -- it stays where it is
  pub stays : (p q : Pen) (changes : List Change) → IsSpot r p.place → q.place ≡ p.place → IsWritten p.log changes q.log → HasWritten r p (at p) changes q
  stays p q changes h e log = record {
    place = record { spot = subst (λ s. IsSpot r s) (sym e) h; tree = ap (λ s. home r (record { place = s; log = q.log })) e; stands = ap (λ s. at (record { place = s; log = q.log })) e };
    log = log;
  }

  module _ (p q s : Pen) (turn : HasTurnedLeft r p q) where
    abbrev K : ℕ
    K = home r p

    abbrev Beside : Position
    Beside = turn_left r.kinds r.automaton K (at p)

    marked : (m : Mark) → mark_at r q ≡ m → mark r.kinds r.automaton K Beside ≡ m
    marked m e = ap₂ (λ j z. mark r.kinds r.automaton j z) (sym turn.place.tree) (sym turn.place.stands) ∙ e

    -- what one move writes
    move_log : (m : Mark) → mark r.kinds r.automaton K Beside ≡ m → (c : ℕ) → contour_log r.kinds r.automaton K 1 (at p) c ≡ turn_log r.kinds r.automaton K (at p) ++ logged_at Position (turn_left r.kinds r.automaton K) (hop r.kinds r.automaton K) (mark r.kinds r.automaton K) (tree_words r.kinds r.automaton K) Beside (λ z e. []) m c
    move_log m e c = ap (λ n. turn_log r.kinds r.automaton K (at p) ++ logged_at Position (turn_left r.kinds r.automaton K) (hop r.kinds r.automaton K) (mark r.kinds r.automaton K) (tree_words r.kinds r.automaton K) Beside (λ z e. []) n c) e

    pub moved_hop : (c : ℕ) → HasHopped r q s → HasMoved r p c false s c
    moved_hop c h =
        let tree = marked Tree h.tree in
        let there = h.written.place.stands ∙ ap₂ (λ j z. hop r.kinds r.automaton j z) turn.place.tree turn.place.stands in
        let wrote = ap₂ (λ j z. across_log (rule_of r.kinds r.automaton j z) (hop r.kinds r.automaton j z)) turn.place.tree turn.place.stands in
        let one = move_log Tree tree c ∙ ap (λ l. turn_log r.kinds r.automaton K (at p) ++ l) (append-nil (across_log (rule_of r.kinds r.automaton K Beside) (hop r.kinds r.automaton K Beside)) ∙ sym wrote) in
        let both = settled p s (hop r.kinds r.automaton (home r q) (at q)) (turn_log r.kinds r.automaton K (at p) ++ across_log (rule_of r.kinds r.automaton (home r q) (at q)) (hop r.kinds r.automaton (home r q) (at q))) (then p q s Beside (hop r.kinds r.automaton (home r q) (at q)) (turn_log r.kinds r.automaton K (at p)) (across_log (rule_of r.kinds r.automaton (home r q) (at q)) (hop r.kinds r.automaton (home r q) (at q))) turn h.written) in
        record {
          written = subst (λ l. HasWritten r p (at s) l s) (sym one) both;
          goes = record { hopped = λ _. (refl, there, refl); opened = λ o. absurd (cc); closed = λ o. absurd (cc) };
        }

    -- a change written past a bracket
    past : (c : ℕ) (change : Change) → s.place ≡ q.place → IsSpot r q.place → IsWritten q.log (change ∷ []) s.log → HasWritten r p (at s) (turn_log r.kinds r.automaton K (at p) ++ change ∷ []) s
    past c change e h log = settled p s (at q) (turn_log r.kinds r.automaton K (at p) ++ change ∷ []) (then p q s Beside (at q) (turn_log r.kinds r.automaton K (at p)) (change ∷ []) turn (stays q s (change ∷ []) h e log))

    there_past : s.place ≡ q.place → at s ≡ Beside
    there_past e = ap (λ t. at (record { place = t; log = s.log })) e ∙ turn.place.stands

    pub moved_open : (c e n : ℕ) → s.place ≡ q.place → mark_at r q ≡ Opens → n ≡ length (position_word (at q)) → IsWritten q.log (inserted n 5 ∷ []) s.log → e ≡ c + 1 → HasMoved r p c false s e
    moved_open c e n same o f log more =
        let opens = marked Opens o in
        let size = f ∙ ap (λ z. length (position_word z)) turn.place.stands in
        let one = move_log Opens opens c ∙ ap (λ m. turn_log r.kinds r.automaton K (at p) ++ inserted m 5 ∷ []) (sym size) in
        let count : e ≡ suc c = omega (arith, more) in
        record {
          written = subst (λ l. HasWritten r p (at s) l s) (sym one) (past c (inserted n 5) same turn.place.spot log);
          goes = record { hopped = λ t. absurd (cc); opened = λ _. (refl, there_past same, count); closed = λ t. absurd (cc) };
        }

    pub moved_close : (c e n : ℕ) (done : Bool) → s.place ≡ q.place → mark_at r q ≡ Closes → n ≡ length (position_word (at q)) → IsWritten q.log (deleted n 1 ∷ []) s.log → e + 1 ≡ c → done ≡ nat_eq e 0 → HasMoved r p c done s e
    moved_close c e n done same o f log less last =
        let closes = marked Closes o in
        let size = f ∙ ap (λ z. length (position_word z)) turn.place.stands in
        let one = move_log Closes closes c ∙ ap (λ l. turn_log r.kinds r.automaton K (at p) ++ l) (closes_log r.kinds r.automaton K Beside c ∙ ap (λ m. deleted m 1 ∷ []) (sym size)) in
        let count : suc e ≡ c = omega (arith, less) in
        record {
          written = subst (λ l. HasWritten r p (at s) l s) (sym one) (past c (deleted n 1) same turn.place.spot log);
          goes = record { hopped = λ t. absurd (cc); opened = λ t. absurd (cc); closed = λ _. (last, there_past same, count) };
        }

-- a tree side that is no Child side is the side of the parent
pub parent_rule : (rule : Rule) → mark_of_rule rule ≡ Tree → ((c : ℕ) → rule ≡ Child c → ⊥) → rule ≡ Parent
parent_rule Parent t n = refl
parent_rule (Child c) t n = absurd (n c refl)
parent_rule Left t n = absurd (cc)
parent_rule Right t n = absurd (cc)

module _ (r : TreeRules) (sound : AreSound r) (p p' : Pen) (h : IsSpot r p.place) where
  -- the side of the parent is that of no root
  pub has_parent : faced_rule r p.place ≡ Parent → p.place.name ≢ []
  has_parent e n =
      let above = (parent_up r.kinds r.automaton (home r p) sound.valid sound.accepted h.known (at p) h.there e).name in
      let q = hop r.kinds r.automaton (home r p) (at p) in
      let l : 0 ≡ length (q.name ++ q.side ∷ []) = ap length (sym n ∙ above) in
      absurd (omega (arith, l, length_push q.name q.side))

  hopped : (y : Position) (changes : List Change) (rule : Rule) → faced_rule r p.place ≡ rule → mark_of_rule rule ≡ Tree → y ≡ tree_across rule (at p) → changes ≡ across_log rule y → HasWritten r p y changes p' → HasHopped r p p'
  hopped y changes rule e t there log w =
      let here : y ≡ hop r.kinds r.automaton (home r p) (at p) = there ∙ ap (λ x. tree_across x (at p)) (sym e) in
      let wrote = log ∙ ap₂ (λ x z. across_log x z) (sym e) here in
      record {
        tree = ap mark_of_rule e ∙ t;
        written = subst (λ z. HasWritten r p z (across_log (rule_of r.kinds r.automaton (home r p) (at p)) (hop r.kinds r.automaton (home r p) (at p))) p') here (subst (λ l. HasWritten r p y l p') wrote w);
      }

  pub hopped_down : (c : ℕ) → faced_rule r p.place ≡ Child c → IsAtChild r p.place p'.place → p'.log ≡ p.log → HasHopped r p p'
  hopped_down c e at log =
      let wrote = subst (λ l. IsWritten p.log [] l) (sym log) (written_none p.log) in
      hopped (make_position (p.place.name ++ p.place.spin ∷ []) 0) [] (Child c) e refl refl refl (record { place = at; log = wrote })

  pub hopped_up : (n : ℕ) → faced_rule r p.place ≡ Parent → IsAtParent r p.place p'.place → n ≡ length (position_word (at p')) → IsWritten p.log (deleted n 1 ∷ []) p'.log → HasHopped r p p'
  hopped_up n e up size log =
      let q = make_position (parent p.place.name) (last_side p.place.name) in
      let same = ap (λ m. deleted m 1 ∷ []) (size ∙ ap (λ z. length (position_word z)) up.stands) in
      hopped q (deleted n 1 ∷ []) Parent e refl refl same (record { place = up; log = log })
