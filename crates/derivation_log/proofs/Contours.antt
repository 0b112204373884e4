-- A pen on the contour, from a Left side to the side that is matched with it.
use Rattle.std.proofs.Common.{◌≡◌, ℕ, suc, ◌≤◌, ◌<◌, true, false, List, [], ◌∷◌, ◌++◌, length, refl, sym, ap, ap₂, ◌∙◌, subst, arith, append_assoc}
use Rattle.tile_model.specs.Tessellations.{TileKind}
use Rattle.tile_model.specs.Relation.{Change}
use Rattle.structure_check.specs.Rules.{TreeRules, AreSound}
use Rattle.tree_model.specs.Automata.{TreeAutomaton}
use Rattle.tree_model.specs.Contours.{Opens}
use Rattle.tree_model.specs.Positions.{Position, turn_left, hop, mark, MatchesLeftwards, LiesAcross, in_tree, from_left, from_right}
use Rattle.tree_model.specs.Places.{position_word}
use Rattle.tree_laws.specs.Machine.{most_moves}
use Rattle.tree_laws.specs.Directions.{Runs, Goes, left_over}
use Rattle.tree_laws.proofs.Runs.{goes_on, ends, tells, counter_most}
use Rattle.tree_laws.proofs.Contour.{arrives}
use Rattle.spot_laws.specs.Spots.{IsSpot}
use Rattle.log_laws.specs.Logs.{inserted, tree_words, crossing_log, contour_log}
use Rattle.log_laws.proofs.Moving.{move_on, move_last}
use Rattle.log_laws.proofs.Logged.{contours_write_logs}
use Rattle.derivation_log.specs.Drafts.{IsWritten}
use Rattle.derivation_log.specs.Pens.{at, home, mark_at, most_open_at, HasWritten, HasMoved, HasRounded}
use Rattle.derivation_log.specs.declared.pen.Pen.{Pen}
use Rattle.derivation_log.proofs.Drafts.{written_more}

-- what lies across a Left side is matched with it
pub left_match : (kinds : List TileKind) (a : TreeAutomaton) (k : ℕ) (p q : Position) → mark kinds a k p ≡ Opens → LiesAcross kinds a k p q → MatchesLeftwards kinds a k p q
left_match kinds a k p q o (in_tree t e) = absurd (cc)
left_match kinds a k p q o (from_left m) = m
left_match kinds a k p q o (from_right h m) = let c = m.closes in absurd (cc)

-- the pen, which began at a Left side, is on the way, with c brackets open
pub record Going (r : TreeRules) (p0 p : Pen) (c : ℕ) : Type 0 where
  pub spot : IsSpot r p.place
  pub tree : home r p ≡ home r p0
  pub end : Position
  pub matched : MatchesLeftwards r.kinds r.automaton (home r p0) (at p0) end
  pub left : ℕ
  pub few : left ≤ most_moves (most_open_at r p0)
  pub runs : Runs r.kinds r.automaton (home r p0) true (most_open_at r p0) left (at p) c end
  pub some : 1 ≤ c
  pub gone : List Change
  pub log : IsWritten p0.log gone p.log
  pub whole : gone ++ contour_log r.kinds r.automaton (home r p0) (suc left) (at p) c ≡ crossing_log r.kinds r.automaton (home r p0) matched

-- the moves that are left
pub rest : TreeRules → Pen → Pen → ℕ → ℕ
rest r p0 p c = left_over r.kinds r.automaton (home r p0) true (suc (most_moves (most_open_at r p0))) (at p) c

rest_is : (r : TreeRules) (p0 p : Pen) (c : ℕ) (g : Going r p0 p c) → rest r p0 p c ≡ g.left
unfolding rest
rest_is r p0 p c g =
    tells Position (turn_left r.kinds r.automaton (home r p0)) (hop r.kinds r.automaton (home r p0)) (mark r.kinds r.automaton (home r p0)) g.runs (suc (most_moves (most_open_at r p0))) (omega (arith, g.few))

module _ (r : TreeRules) (sound : AreSound r) (p0 : Pen) where
  abbrev K : ℕ
  K = home r p0

  abbrev Left : Position → Position
  Left = turn_left r.kinds r.automaton K

  abbrev Hop : Position → Position
  Hop = hop r.kinds r.automaton K

  pub going_start : (p : Pen) (n : ℕ) → IsSpot r p0.place → mark_at r p0 ≡ Opens → p.place ≡ p0.place → n ≡ length (position_word (at p0)) → IsWritten p0.log (inserted n 5 ∷ []) p.log → Going r p0 p 1
  going_start p n h o same e log =
      let (y, w) = arrives r.kinds r.automaton K sound.valid sound.accepted h.known true (at p0) h.there o in
      let m = left_match r.kinds r.automaton K (at p0) y o w.across in
      let place = ap (λ s. at (record { place = s; log = p.log })) same in
      let all = contours_write_logs r.kinds r.automaton K sound.valid sound.accepted h.known (at p0) y m (most_open_at r p0) w.moves w.runs (suc w.moves) (omega arith) in
      let here = ap₂ (λ i z. inserted i 5 ∷ contour_log r.kinds r.automaton K (suc w.moves) z 1) e place in
      record {
        spot = subst (λ s. IsSpot r s) (sym same) h;
        tree = ap (λ s. home r (record { place = s; log = p.log })) same;
        end = y;
        matched = m;
        left = w.moves;
        few = w.few;
        runs = subst (λ z. Runs r.kinds r.automaton K true (most_open_at r p0) w.moves z 1 y) (sym place) w.runs;
        some = omega arith;
        gone = inserted n 5 ∷ [];
        log = log;
        whole = here ∙ all;
      }

  -- with a move less to come
  pub going_on : (p p' : Pen) (c c' : ℕ) → Going r p0 p c → HasMoved r p c false p' c' → Going r p0 p' c' × (rest r p0 p' c' < rest r p0 p c)
  going_on p p' c c' g m =
      let goes : Goes r.kinds r.automaton K true (at p) c false (at p') c' = subst (λ k. Goes r.kinds r.automaton k true (at p) c false (at p') c') g.tree m.goes in
      let n = goes_on Position Left Hop (mark r.kinds r.automaton K) g.runs (at p') c' g.some goes in
      let wrote : IsWritten p.log (contour_log r.kinds r.automaton K 1 (at p) c) p'.log = subst (λ k. IsWritten p.log (contour_log r.kinds r.automaton k 1 (at p) c) p'.log) g.tree m.written.log in
      let split = move_on Position Left Hop (mark r.kinds r.automaton K) (tree_words r.kinds r.automaton K) (at p) (at p') c c' g.left n.3 goes in
      let all = append_assoc g.gone (contour_log r.kinds r.automaton K 1 (at p) c) (contour_log r.kinds r.automaton K (suc n.0) (at p') c') ∙ ap (λ f. g.gone ++ (contour_log r.kinds r.automaton K 1 (at p) c ++ contour_log r.kinds r.automaton K f (at p') c')) (sym n.1) ∙ ap (λ l. g.gone ++ l) (sym split) ∙ g.whole in
      let g' : Going r p0 p' c' = record {
        spot = m.written.place.spot;
        tree = m.written.place.tree ∙ g.tree;
        end = g.end;
        matched = g.matched;
        left = n.0;
        few = omega (arith, g.few, n.1);
        runs = n.2;
        some = n.3;
        gone = g.gone ++ contour_log r.kinds r.automaton K 1 (at p) c;
        log = written_more p0.log g.gone p.log (contour_log r.kinds r.automaton K 1 (at p) c) p'.log g.log wrote;
        whole = all;
      } in
      (g', omega (arith, rest_is r p0 p c g, rest_is r p0 p' c' g', n.1))

  rounded : (p' : Pen) (y : Position) → at p' ≡ y → (m : MatchesLeftwards r.kinds r.automaton K (at p0) y) → HasWritten r p0 (at p') (crossing_log r.kinds r.automaton K m) p' → HasRounded r p0 p'
  rounded p' y e =
      subst (λ z. (m : MatchesLeftwards r.kinds r.automaton K (at p0) z) → HasWritten r p0 (at p') (crossing_log r.kinds r.automaton K m) p' → HasRounded r p0 p') e (λ m h. record { matched = m; written = h })

  -- it ends at the matched side
  pub going_end : (p p' : Pen) (c c' : ℕ) → Going r p0 p c → HasMoved r p c true p' c' → HasRounded r p0 p'
  going_end p p' c c' g m =
      let goes : Goes r.kinds r.automaton K true (at p) c true (at p') c' = subst (λ k. Goes r.kinds r.automaton k true (at p) c true (at p') c') g.tree m.goes in
      let wrote : IsWritten p.log (contour_log r.kinds r.automaton K 1 (at p) c) p'.log = subst (λ k. IsWritten p.log (contour_log r.kinds r.automaton k 1 (at p) c) p'.log) g.tree m.written.log in
      let stop = ends Position Left Hop (mark r.kinds r.automaton K) g.runs (at p') c' goes in
      let last = move_last Position Left Hop (mark r.kinds r.automaton K) (tree_words r.kinds r.automaton K) (at p) (at p') c c' g.left goes in
      let all = ap (λ l. g.gone ++ l) (sym last) ∙ g.whole in
      let log = written_more p0.log g.gone p.log (contour_log r.kinds r.automaton K 1 (at p) c) p'.log g.log wrote in
      rounded p' g.end stop g.matched (record {
        place = record { spot = m.written.place.spot; tree = m.written.place.tree ∙ g.tree; stands = refl };
        log = subst (λ l. IsWritten p0.log l p'.log) all log;
      })

  -- no more brackets are open than the contour can have
  pub going_few : (p : Pen) (c : ℕ) → Going r p0 p c → c ≤ most_open_at r p0
  going_few p c g = counter_most Position Left Hop (mark r.kinds r.automaton K) g.runs
