-- Walks that come to a name that is too long do so by a crossing.
-- And where a walker's walk goes on.
use Rattle.std.proofs.Common.{◌≡◌, ℕ, ◌<◌, ◌≤◌, List, [], ◌∷◌, ◌++◌, length, refl, sym, ap, ◌∙◌, subst, append_assoc, append-nil, arith, ⊎_elim}
use Rattle.std.proofs.lemmas.Bool.{cases_lt}
use Rattle.tile_model.specs.declared.Letter.{Letter}
use Rattle.tile_model.specs.declared.Letter.TheVariants.{L, R, X}
use Rattle.tile_model.specs.Tessellations.{TileKind}
use Rattle.tile_model.specs.Validity.{IsValid}
use Rattle.tree_model.specs.Automata.{TreeAutomaton}
use Rattle.tree_model.specs.Conditions.{IsAccepted}
use Rattle.tree_model.specs.Positions.{Position, root, Moves, Leads}
use Rattle.structure_check.specs.Rules.{TreeRules}
use Rattle.turn_rules.specs.Spots.{TreeSpot, IsSpot, position, root_kind}
use Rattle.tree_laws.proofs.Walking.{leads_append, leads_split, leads_same}
use Rattle.step_engine.specs.Crossings.{WalksDeep, WalkLeadsTo}
use Rattle.tree_model.specs.Limits.{deepest}
use Rattle.reply_model.specs.Histories.{History, walk_of}
use Rattle.reply_model.specs.Replies.{PassesFar}
use Rattle.reply_model.specs.TreeReadings.{tree_reading}
use Rattle.reply_laws.proofs.Depths.{far_from_deep, deep_from_far}
use Rattle.session_core.specs.Sessions.{SessionState, IsWalker}
use Rattle.session_core.proofs.Steps.{HasGone}

module _ (kinds : List TileKind) (a : TreeAutomaton) (k : ℕ) where
  -- some crossing on the walk from position p arrives at a name that is too long
  record Stops (p : Position) (u : List Letter) : Type 0 where
    before : List Letter
    behind : List Letter
    split : u ≡ before ++ X ∷ behind
    there : Position
    leads : Leads kinds a k p (before ++ X ∷ []) there
    deep : deepest < length there.name

  stops_later :
      (x : Letter) (p m : Position) (u : List Letter) → Moves kinds a k x p m → Stops m u →
      Stops p (x ∷ u)
  stops_later x p m u e s = record {
    before = x ∷ s.before;
    behind = s.behind;
    split = ap (λ l. x ∷ l) s.split;
    there = s.there;
    leads = (m, e, s.leads);
    deep = s.deep;
  }

  stops :
      (u : List Letter) (p q : Position) → length p.name ≤ deepest → Leads kinds a k p u q →
      deepest < length q.name → Stops p u
  stops [] p q near e deep =
      let f : length p.name ≡ length q.name = ap (λ (r : Position). length r.name) e in absurd
      (omega (arith, near, deep, f))
  stops (L ∷ u) p q near f deep =
      let n : length f.0.name ≤ deepest =
      subst (λ (r : Position). length r.name ≤ deepest) f.1 near in
      stops_later L p f.0 u f.1 (stops u f.0 q n f.2 deep)
  stops (R ∷ u) p q near f deep =
      let n : length f.0.name ≤ deepest =
      subst (λ (r : Position). length r.name ≤ deepest) f.1 near in
      stops_later R p f.0 u f.1 (stops u f.0 q n f.2 deep)
  stops (X ∷ u) p q near f deep =
      ⊎_elim here (λ n. stops_later X p f.0 u f.1 (stops u f.0 q n f.2 deep))
      (cases_lt deepest (length f.0.name))
    where
      here : deepest < length f.0.name → Stops p (X ∷ u)
      here d = record {
        before = [];
        behind = u;
        split = refl;
        there = f.0;
        leads = (f.0, f.1, refl);
        deep = d;
      }

module _ (rules : TreeRules) (k : ℕ) (s : TreeSpot) (walker : IsWalker rules k s) where
  -- the walk leads too deep where some part of it does
  walks_deep :
      (u rest whole : List Letter) (q : Position) → whole ≡ u ++ rest →
      Leads rules.kinds rules.automaton k (position s) u q → deepest < length q.name →
      WalksDeep rules s whole deepest
  walks_deep u rest whole q e l d =
      let p = stops rules.kinds rules.automaton k u (position s) q walker.near l d in
      record {
        before = p.before;
        behind = p.behind ++ rest;
        split = e ∙ ap (λ l. l ++ rest) p.split ∙ append_assoc p.before (X ∷ p.behind) rest;
        there = p.there;
        leads =
            subst
            (λ j. Leads rules.kinds rules.automaton j (position s) (p.before ++ X ∷ []) p.there)
            (sym walker.tree) p.leads;
        deep = p.deep;
      }

  -- behind a walk that leads to the spot
  pub goes_deep :
      (h : History) (w : ℕ) (u : List Letter) →
      Leads rules.kinds rules.automaton k root (walk_of h w) (position s) →
      WalksDeep rules s u deepest →
      PassesFar (tree_reading rules.kinds rules.automaton k) [] (walk_of h w) u
  goes_deep h w u l d =
      let on =
      subst
      (λ j. Leads rules.kinds rules.automaton j (position s) (d.before ++ X ∷ []) d.there)
      walker.tree d.leads in
      let led =
      leads_append rules.kinds rules.automaton k (walk_of h w) (d.before ++ X ∷ []) root
      (position s) d.there l on in
      record {
        prefix = d.before ++ X ∷ [];
        rest = d.behind;
        split = d.split ∙ sym (append_assoc d.before (X ∷ []) d.behind);
        far =
            far_from_deep rules.kinds rules.automaton k (walk_of h w ++ (d.before ++ X ∷ []))
            (record { place = d.there; led = led; deep = d.deep });
      }

  pub deep_goes :
      IsValid rules.kinds → IsAccepted rules.kinds rules.automaton → k < length rules.kinds →
      (h : History) (w : ℕ) (u : List Letter) →
      Leads rules.kinds rules.automaton k root (walk_of h w) (position s) →
      PassesFar (tree_reading rules.kinds rules.automaton k) [] (walk_of h w) u →
      WalksDeep rules s u deepest
  deep_goes valid ok known h w u l d =
      let e = deep_from_far rules.kinds rules.automaton k (walk_of h w ++ d.prefix) d.far in
      let (m, l1, l2) =
      leads_split rules.kinds rules.automaton k (walk_of h w) d.prefix root e.place e.led in
      let same : m ≡ position s =
      leads_same rules.kinds rules.automaton k valid ok known (walk_of h w) root m
      (position s) l1 l in
      walks_deep d.prefix d.rest u e.place d.split
      (subst (λ n. Leads rules.kinds rules.automaton k n d.prefix e.place) same l2) e.deep

-- the spot to which a walk has led that did not lead too deep
pub has_gone :
    (session : SessionState) (s t : TreeSpot) (u : List Letter) →
    IsWalker session.rules session.kind s → IsSpot session.rules t →
    root_kind session.rules t ≡ root_kind session.rules s → WalkLeadsTo session.rules s u (position t) →
    (WalksDeep session.rules s u deepest → ⊥) → HasGone session s t u
has_gone session s t u walker spot tree leads near =
    let on =
    subst
    (λ j. Leads session.rules.kinds session.rules.automaton j (position s) u (position t))
    walker.tree leads in
    let close : length t.name ≤ deepest =
    ⊎_elim
    (λ d. absurd
    (near
    (walks_deep session.rules session.kind s walker u [] u (position t)
    (sym (append-nil u)) on d))) (λ n. n) (cases_lt deepest (length t.name)) in
    record {
      walker = record { spot = spot; tree = tree ∙ walker.tree; near = close };
      leads = leads;
      near = near;
    }
