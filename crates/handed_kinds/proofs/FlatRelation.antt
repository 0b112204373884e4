-- Walks from a handed type are related exactly where they are from its `flat`.
use Rattle.std.proofs.Common.{ℕ, Bool, List, [], ◌∷◌, sym, subst}
use Rattle.tile_model.specs.declared.Letter.{Letter}
use Rattle.tile_model.specs.Walks.{type_of}
use Rattle.tile_model.specs.Relation.{IsLoop, Change, Changes, Lead, AreRelated}
use Rattle.handed_kinds.specs.Handed.{HandedKind, IsHandedType}
use Rattle.handed_kinds.specs.HandedValidity.{IsHandedValid}
use Rattle.handed_kinds.specs.HandedWalks.{step, handed_type, IsHandedLoop}
use Rattle.handed_kinds.specs.HandedRelation.{HandedChanges, HandedLead, AreHandedRelated}
use Rattle.handed_kinds.specs.Expansion.{flat, expanded}
use Rattle.handed_kinds.proofs.FlatWalks.{walk_flat, step_type, loop_there, loop_back}

module _ (hs : List HandedKind) (valid : IsHandedValid hs) where
  walk_type : (t : ℕ × ℕ × Bool) (walk : List Letter) → IsHandedType hs t → IsHandedType hs (handed_type hs t walk)
  walk_type t [] h = h
  walk_type t (x ∷ walk) h = walk_type (step hs t x) walk (step_type hs valid t x h)

  module _ (t : ℕ × ℕ × Bool) (h : IsHandedType hs t) where
    behind_there : (before : List Letter) (j : ℕ) (loop : List Letter) → IsHandedLoop hs (handed_type hs t before) j loop → IsLoop (expanded hs) (type_of (expanded hs) (flat hs t) before) j loop
    behind_there before j loop is = subst (λ (d : ℕ × ℕ). IsLoop (expanded hs) d j loop) (walk_flat hs valid t before) (loop_there hs valid (handed_type hs t before) (walk_type t before h) j loop is)

    behind_back : (before : List Letter) (j : ℕ) (loop : List Letter) → IsLoop (expanded hs) (type_of (expanded hs) (flat hs t) before) j loop → IsHandedLoop hs (handed_type hs t before) j loop
    behind_back before j loop is = loop_back hs valid (handed_type hs t before) (walk_type t before h) j loop (subst (λ (d : ℕ × ℕ). IsLoop (expanded hs) d j loop) (sym (walk_flat hs valid t before)) is)

    change_there : (c : Change) (u w : List Letter) → HandedChanges hs t c u w → Changes (expanded hs) (flat hs t) c u w
    change_there c u w (HandedChanges.inserts before loop behind way at is from to) = Changes.inserts before loop behind way at (behind_there before c.loop loop is) from to
    change_there c u w (HandedChanges.deletes before loop behind way at is from to) = Changes.deletes before loop behind way at (behind_there before c.loop loop is) from to

    change_back : (c : Change) (u w : List Letter) → Changes (expanded hs) (flat hs t) c u w → HandedChanges hs t c u w
    change_back c u w (Changes.inserts before loop behind way at is from to) = HandedChanges.inserts before loop behind way at (behind_back before c.loop loop is) from to
    change_back c u w (Changes.deletes before loop behind way at is from to) = HandedChanges.deletes before loop behind way at (behind_back before c.loop loop is) from to

    lead_there : (changes : List Change) (u w : List Letter) → HandedLead hs t changes u w → Lead (expanded hs) (flat hs t) changes u w
    lead_there [] u w lead = lead
    lead_there (c ∷ changes) u w lead = (lead.0, change_there c u lead.0 lead.1, lead_there changes lead.0 w lead.2)

    lead_back : (changes : List Change) (u w : List Letter) → Lead (expanded hs) (flat hs t) changes u w → HandedLead hs t changes u w
    lead_back [] u w lead = lead
    lead_back (c ∷ changes) u w lead = (lead.0, change_back c u lead.0 lead.1, lead_back changes lead.0 w lead.2)

    pub related_there : (u w : List Letter) → AreHandedRelated hs t u w → AreRelated (expanded hs) (flat hs t) u w
    related_there u w related = (related.0, lead_there related.0 u w related.1)

    pub related_back : (u w : List Letter) → AreRelated (expanded hs) (flat hs t) u w → AreHandedRelated hs t u w
    related_back u w related = (related.0, lead_back related.0 u w related.1)
