-- Walks from the root that pass a tile too far from it, and where two walks are related.
use Rattle.std.specs.Prelude.{Result, Ok, Err, IsErrAnd, IsErrOf}
use Rattle.std.proofs.Common.{◌≡◌, ◌⊎◌, inl, inr, ℕ, ◌<◌, ◌≤◌, List, [], ◌∷◌, ◌++◌, length, sym, ap, ◌∙◌, subst, append_assoc, arith}
use Rattle.tile_model.specs.declared.Letter.{Letter}
use Rattle.tile_model.specs.declared.Letter.TheVariants.{X}
use Rattle.tile_model.specs.Relation.{AreRelated}
use Rattle.tile_model.proofs.Distances.{one_distance}
use Rattle.tree_model.specs.Limits.{deepest}
use Rattle.tree_model.specs.Positions.{Position, root, Leads}
use Rattle.tree_laws.proofs.Stopping.{arrives_deep}
use Rattle.tree_laws.proofs.Places.{one_place, leads_place, places_related}
use Rattle.tree_laws.proofs.Levels.{level}
use Rattle.structure_check.specs.Rules.{TreeRules, AreSound}
use Rattle.spot_laws.specs.Spots.{TreeSpot, IsAt, position}
use Rattle.step_engine.specs.declared.fault.StepFault.{StepFault}
use Rattle.step_engine.specs.declared.fault.StepFault.TheVariants.{Deep, Memory}
use Rattle.step_engine.specs.Crossings.{WalkLeadsTo, WalksDeep}
use Rattle.derivation_log.specs.Passing.{PassesFar}

module _ (r : TreeRules) (sound : AreSound r) (k : ℕ) (known : k < length r.kinds) (s : TreeSpot) (h : IsAt r k root s) where
  pub leads_from_root : (w : List Letter) (q : Position) → WalkLeadsTo r s w q → Leads r.kinds r.automaton k root w q
  leads_from_root w q l = subst (λ p. Leads r.kinds r.automaton k p w q) h.stands (subst (λ j. Leads r.kinds r.automaton j (position s) w q) h.tree l)

  pub deep_passes : (w : List Letter) → WalksDeep r s w deepest → PassesFar r.kinds k w
  deep_passes w d =
      let u = d.before ++ X ∷ [] in
      let leads = leads_from_root u d.there d.leads in
      record {
        prefix = u;
        rest = d.behind;
        split = d.split ∙ sym (append_assoc d.before (X ∷ []) d.behind);
        distance = length d.there.name;
        apart = level r.kinds r.automaton k sound.valid sound.accepted known u d.there (leads_place r.kinds r.automaton k sound.valid sound.accepted known u d.there leads);
        far = d.deep;
      }

  pub passes_deep : (w : List Letter) → PassesFar r.kinds k w → WalksDeep r s w deepest
  passes_deep w f =
      let (q, place, leads) = one_place r.kinds r.automaton k sound.valid sound.accepted known f.prefix in
      let same = one_distance r.kinds (k, 0) [] f.prefix (length q.name) f.distance (level r.kinds r.automaton k sound.valid sound.accepted known f.prefix q place) f.apart in
      let near : 0 ≤ deepest = omega arith in
      let stop = arrives_deep r.kinds r.automaton k deepest f.prefix root q near leads (omega (arith, f.far, same)) in
      let back = subst (λ p. Leads r.kinds r.automaton k p (stop.before ++ X ∷ []) stop.there) (sym h.stands) stop.leads in
      record {
        before = stop.before;
        behind = stop.behind ++ f.rest;
        split = f.split ∙ ap (λ l. l ++ f.rest) stop.split ∙ append_assoc stop.before (X ∷ stop.behind) f.rest;
        there = stop.there;
        leads = subst (λ j. Leads r.kinds r.automaton j (position s) (stop.before ++ X ∷ []) stop.there) (sym h.tree) back;
        deep = stop.deep;
      }

module _ (r : TreeRules) (sound : AreSound r) (k : ℕ) (known : k < length r.kinds) where
  -- walks that lead to one position are related, and no others are
  pub one_position : (u w : List Letter) (p q : Position) → Leads r.kinds r.automaton k root u p → Leads r.kinds r.automaton k root w q → AreRelated r.kinds (k, 0) u w → p ≡ q
  one_position u w p q f g related =
      (places_related r.kinds r.automaton k sound.valid sound.accepted known u w p q (leads_place r.kinds r.automaton k sound.valid sound.accepted known u p f) (leads_place r.kinds r.automaton k sound.valid sound.accepted known w q g)).1 related

-- a call that went well met no fault
pub was_no_fault : {T : Type 0} (result : Result T StepFault) (x : T) → result ≡ Ok x → IsErrOf result Deep ⊎ IsErrOf result Memory → ⊥
was_no_fault result x e (inl f) = absurd (cc)
was_no_fault result x e (inr f) = absurd (cc)

-- a fault that is handed on is the same
pub same_fault : {T E : Type 0} (r : Result T E) (e x : E) → IsErrAnd r (λ y. y ≡ e) → IsErrOf r x → e ≡ x
same_fault (Ok t) e x is of = absurd is
same_fault (Err y) e x is of = let f : y ≡ x = cc in sym is ∙ f
