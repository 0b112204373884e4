-- The contour, from where it begins to where it ends.
use Rattle.std.proofs.Common.{◌≡◌, ℕ, suc, ◌^◌, ◌<◌, ◌≤◌, Bool, true, false, length, refl, sym, ap, ◌∙◌, subst, arith}
use Rattle.structure_check.specs.Rules.{TreeRules, AreSound}
use Rattle.tree_model.specs.Contours.{Mark, Tree, Opens, mirrored}
use Rattle.tree_model.specs.Positions.{Position, LiesAcross, in_tree, hop, mark}
use Rattle.tree_laws.specs.Machine.{most_moves}
use Rattle.tree_laws.specs.Directions.{turned, mark_towards, most_open, Runs, left_over}
use Rattle.spot_laws.specs.Spots.{TreeSpot, root_kind}
use Rattle.tree_laws.proofs.Runs.{goes_on, ends, tells, counter_most}
use Rattle.tree_laws.proofs.Contour.{arrives}
use Rattle.step_engine.specs.declared.detour.Detour.{Detour}
use Rattle.step_engine.specs.Detours.{IsDetour, HasReached, HasMoved, HasCrossed, there}
use Rattle.step_engine.proofs.Detours.{at_home, known_home}

mirrored_tree : (m : Mark) → m ≡ Tree → mirrored m ≡ Tree
mirrored_tree m e = ap mirrored e

-- the contour in one direction from detour d0 is at d, with c brackets open
pub record Going (r : TreeRules) (s : TreeSpot) (leftwards : Bool) (d0 d : Detour) (c : ℕ) : Type 0 where
  pub detour : IsDetour r s d
  pub end : Position
  pub across : LiesAcross r.kinds r.automaton (root_kind r s) (there s d0) end
  pub left : ℕ
  pub few : left ≤ most_moves (most_open r.kinds r.automaton (root_kind r s) leftwards (there s d0))
  pub runs : Runs r.kinds r.automaton (root_kind r s) leftwards (most_open r.kinds r.automaton (root_kind r s) leftwards (there s d0)) left (there s d) c end
  pub some : 1 ≤ c

-- the moves that are left
pub rest : TreeRules → TreeSpot → Bool → Detour → Detour → ℕ → ℕ
rest r s leftwards d0 d c = left_over r.kinds r.automaton (root_kind r s) leftwards (suc (most_moves (most_open r.kinds r.automaton (root_kind r s) leftwards (there s d0)))) (there s d) c

rest_is : (r : TreeRules) (s : TreeSpot) (leftwards : Bool) (d0 d : Detour) (c : ℕ) (g : Going r s leftwards d0 d c) → rest r s leftwards d0 d c ≡ g.left
unfolding rest
rest_is r s leftwards d0 d c g =
    tells Position (turned r.kinds r.automaton (root_kind r s) leftwards) (hop r.kinds r.automaton (root_kind r s)) (mark_towards r.kinds r.automaton (root_kind r s) leftwards) g.runs (suc (most_moves (most_open r.kinds r.automaton (root_kind r s) leftwards (there s d0)))) (omega (arith, g.few))

module _ (r : TreeRules) (sound : AreSound r) (s : TreeSpot) where
  abbrev Home : ℕ
  Home = root_kind r s

  tree_towards : (b : Bool) (p : Position) → mark r.kinds r.automaton Home p ≡ Tree → mark_towards r.kinds r.automaton Home b p ≡ Tree
  tree_towards true p e = e
  tree_towards false p e = mirrored_tree (mark r.kinds r.automaton Home p) e

  -- a turn to a side of the tree, and across it
  pub hops : (leftwards : Bool) (d e f : Detour) (c : ℕ) → HasReached r s (turned r.kinds r.automaton Home leftwards (there s d)) e → mark r.kinds r.automaton Home (there s e) ≡ Tree
      → HasReached r s (hop r.kinds r.automaton Home (there s e)) f → HasMoved r s leftwards d c false f c
  hops leftwards d e f c turn tree across =
      let q : Position = turned r.kinds r.automaton Home leftwards (there s d) in
      let t = tree_towards leftwards q (sym (ap (mark r.kinds r.automaton Home) turn.arrives) ∙ tree) in
      record {
        detour = across.detour;
        goes = record {
          hopped = λ _. (refl, across.arrives ∙ ap (hop r.kinds r.automaton Home) turn.arrives, refl);
          opened = λ o. absurd (cc);
          closed = λ o. absurd (cc);
        };
      }

  -- the contour begins
  pub going_start : (leftwards : Bool) (d : Detour) → IsDetour r s d → mark_towards r.kinds r.automaton Home leftwards (there s d) ≡ Opens → Going r s leftwards d d 1
  going_start leftwards d h o =
      let (q, w) = arrives r.kinds r.automaton Home sound.valid sound.accepted (known_home r sound s d h) leftwards (there s d) (at_home r sound s d h) o in
      record { detour = h; end = q; across = w.across; left = w.moves; few = w.few; runs = w.runs; some = omega arith }

  -- and goes on, with a move less to come
  pub going_on : (leftwards : Bool) (d0 d d' : Detour) (c c' : ℕ) → Going r s leftwards d0 d c → HasMoved r s leftwards d c false d' c' → Going r s leftwards d0 d' c' × (rest r s leftwards d0 d' c' < rest r s leftwards d0 d c)
  going_on leftwards d0 d d' c c' g m =
      let n = goes_on Position (turned r.kinds r.automaton Home leftwards) (hop r.kinds r.automaton Home) (mark_towards r.kinds r.automaton Home leftwards) g.runs (there s d') c' g.some m.goes in
      let g' : Going r s leftwards d0 d' c' = record { detour = m.detour; end = g.end; across = g.across; left = n.0; few = omega (arith, g.few, n.1); runs = n.2; some = n.3 } in
      (g', omega (arith, rest_is r s leftwards d0 d c g, rest_is r s leftwards d0 d' c' g', n.1))

  -- it ends across
  pub going_end : (leftwards : Bool) (d0 d d' : Detour) (c c' : ℕ) → Going r s leftwards d0 d c → HasMoved r s leftwards d c true d' c' → HasCrossed r s d0 d'
  going_end leftwards d0 d d' c c' g m =
      let e = ends Position (turned r.kinds r.automaton Home leftwards) (hop r.kinds r.automaton Home) (mark_towards r.kinds r.automaton Home leftwards) g.runs (there s d') c' m.goes in
      record { detour = m.detour; across = subst (LiesAcross r.kinds r.automaton Home (there s d0)) (sym e) g.across }

  -- no more brackets are open than the contour can have
  pub going_few : (leftwards : Bool) (d0 d : Detour) (c : ℕ) → Going r s leftwards d0 d c → c ≤ most_open r.kinds r.automaton Home leftwards (there s d0)
  going_few leftwards d0 d c g = counter_most Position (turned r.kinds r.automaton Home leftwards) (hop r.kinds r.automaton Home) (mark_towards r.kinds r.automaton Home leftwards) g.runs

  -- across a side of the tree
  pub tree_crossed : (d d' : Detour) → mark r.kinds r.automaton Home (there s d) ≡ Tree → HasReached r s (hop r.kinds r.automaton Home (there s d)) d' → HasCrossed r s d d'
  tree_crossed d d' t c = record { detour = c.detour; across = in_tree t (sym c.arrives) }
