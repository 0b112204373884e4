-- A live cell is added, and joined across the dart.
use Rattle.std.proofs.Common.{◌≡◌, ℕ, ◌+◌, ◌*◌, List, [], ◌∷◌, ◌++◌, length, None, refl, sym, ap, ap₂, ◌∙◌, subst, arith}
use Rattle.coincidence.specs.declared.origin.Origin.{Origin}
use Rattle.coincidence.specs.Darts.{pack, unpack, slot_at}
use Rattle.coincidence.specs.Atlases.{LieAcross, IsSound}
use Rattle.coincidence.specs.Followed.{IsSettled}
use Rattle.coincidence.specs.Tables.{JoinTable, atlas_of, joined_in}
use Rattle.coincidence.specs.Joined.{IsKept, HasMade}
use Rattle.coincidence.proofs.Calls.{live_at_most}
use Rattle.coincidence.proofs.Kept.{kept_table}
use Rattle.coincidence.proofs.Made.{ready, near_there, made_shaped, near_settled_after, over_settled_after, near_empty, over_empty, sound_after, lies_across, made_kept, made_is, kept_same}
use Rattle.coincidence.proofs.joins.Joins.make_across.Goals as goal

pub type_of-requires : goal.type_of-requires
type_of-requires c = let h = near_there c.args.self.now c.self.inside.tessellation.now c.self.inside.origins.items c.self.inside.table c.args.d c.least-near.result c.self.view_is c.self.invariant c.requires.live c.least-near.ensures in omega (arith, h.0, ap (λ v. length v.origins) c.self.view_is)

pub returns-in_err-reserve-clause-table : goal.returns-in_err-reserve-clause-table
returns-in_err-reserve-clause-table c = kept_table c.self.inside.tessellation.now c.reserve.new.self.items c.self.inside.table (kept_same c.self.inside.tessellation.now c.self.inside.origins.items c.reserve.new.self.items c.self.inside.table c.self.inside.table c.self.invariant c.reserve.ensures.items refl refl refl refl)

pub extend-requires : goal.extend-requires
extend-requires c = omega (arith, live_at_most c.self.inside.table c.self.invariant.shaped, c.self.invariant.count, c.requires.room, ap (λ v. length v.origins) c.self.view_is)

pub invariant_of-self-in_err-extend : goal.invariant_of-self-in_err-extend
invariant_of-self-in_err-extend c = let h = c.in_err-extend.ensures in kept_same c.self.inside.tessellation.now c.self.inside.origins.items c.reserve.new.self.items c.self.inside.table c.extend.new.self c.self.invariant c.reserve.ensures.items h.same_cells h.same_slots h.same_head h.same_live

pub returns-in_err-extend-clause-table : goal.returns-in_err-extend-clause-table
returns-in_err-extend-clause-table c = let h = c.in_err-extend.ensures in kept_table c.self.inside.tessellation.now c.reserve.new.self.items c.extend.new.self (kept_same c.self.inside.tessellation.now c.self.inside.origins.items c.reserve.new.self.items c.self.inside.table c.extend.new.self c.self.invariant c.reserve.ensures.items h.same_cells h.same_slots h.same_head h.same_live)

pub packed-requires-clause-cell : goal.packed-requires-clause-cell
packed-requires-clause-cell c = let h = near_there c.args.self.now c.self.inside.tessellation.now c.self.inside.origins.items c.self.inside.table c.args.d c.least-near.result c.self.view_is c.self.invariant c.requires.live c.least-near.ensures in omega (arith, h.0, c.self.invariant.count, c.self.invariant.shaped.few)

pub packed-requires-clause-side : goal.packed-requires-clause-side
packed-requires-clause-side c = (near_there c.args.self.now c.self.inside.tessellation.now c.self.inside.origins.items c.self.inside.table c.args.d c.least-near.result c.self.view_is c.self.invariant c.requires.live c.least-near.ensures).1

pub packed-requires-2-clause-cell : goal.packed-requires-2-clause-cell
packed-requires-2-clause-cell c = let h = near_there c.args.self.now c.self.inside.tessellation.now c.self.inside.origins.items c.self.inside.table c.args.d c.least-near.result c.self.view_is c.self.invariant c.requires.live c.least-near.ensures in omega (arith, h.0, c.self.invariant.count, c.self.invariant.shaped.few)

pub packed-requires-2-clause-side : goal.packed-requires-2-clause-side
packed-requires-2-clause-side c = (near_there c.args.self.now c.self.inside.tessellation.now c.self.inside.origins.items c.self.inside.table c.args.d c.least-near.result c.self.view_is c.self.invariant c.requires.live c.least-near.ensures).1

pub link-requires-clause-shaped : goal.link-requires-clause-shaped
link-requires-clause-shaped c = let r = ready c.args.self.now c.self.inside.tessellation.now c.self.inside.origins.items c.self.inside.table c.extend.new.self c.args.d c.least-near.result c.cross-over.result c.type_of.result c.sides-sides.result c.self.view_is c.self.invariant c.requires.live c.requires.room c.least-near.ensures c.type_of.ensures.value c.cross-over.ensures.value c.sides-sides.ensures.value c.in_ok-extend.ensures.extended in made_shaped c.self.inside.tessellation.now c.self.inside.origins.items c.self.inside.table c.extend.new.self r.kept c.args.d c.least-near.result c.cross-over.result r.room r.live r.near_is r.over_is r.extended

pub link-requires-clause-first : goal.link-requires-clause-first
link-requires-clause-first c = let r = ready c.args.self.now c.self.inside.tessellation.now c.self.inside.origins.items c.self.inside.table c.extend.new.self c.args.d c.least-near.result c.cross-over.result c.type_of.result c.sides-sides.result c.self.view_is c.self.invariant c.requires.live c.requires.room c.least-near.ensures c.type_of.ensures.value c.cross-over.ensures.value c.sides-sides.ensures.value c.in_ok-extend.ensures.extended in subst (IsSettled c.extend.new.self.cells.items) (sym c.packed-2.ensures) (near_settled_after c.self.inside.tessellation.now c.self.inside.origins.items c.self.inside.table c.extend.new.self r.kept c.args.d c.least-near.result c.cross-over.result r.room r.live r.near_is r.over_is r.extended)

-- the packed dart of the new cell
over_is_packed : (c : goal.After-struct_known-1) → c.len-cell.result * 64 + c.over.inside.residue ≡ pack (length c.self.inside.origins.items, c.cross-over.result.1)
over_is_packed c = omega (arith, c.len-cell.ensures, c.self.inside.origins.ok.0, ap (λ d. d.1) c.over.view_is)

pub link-requires-clause-second : goal.link-requires-clause-second
link-requires-clause-second c = let r = ready c.args.self.now c.self.inside.tessellation.now c.self.inside.origins.items c.self.inside.table c.extend.new.self c.args.d c.least-near.result c.cross-over.result c.type_of.result c.sides-sides.result c.self.view_is c.self.invariant c.requires.live c.requires.room c.least-near.ensures c.type_of.ensures.value c.cross-over.ensures.value c.sides-sides.ensures.value c.in_ok-extend.ensures.extended in subst (IsSettled c.extend.new.self.cells.items) (sym (over_is_packed c)) (over_settled_after c.self.inside.tessellation.now c.self.inside.origins.items c.self.inside.table c.extend.new.self r.kept c.args.d c.least-near.result c.cross-over.result r.room r.live r.near_is r.over_is r.extended)

pub link-requires-clause-first_empty : goal.link-requires-clause-first_empty
link-requires-clause-first_empty c =
    let r = ready c.args.self.now c.self.inside.tessellation.now c.self.inside.origins.items c.self.inside.table c.extend.new.self c.args.d c.least-near.result c.cross-over.result c.type_of.result c.sides-sides.result c.self.view_is c.self.invariant c.requires.live c.requires.room c.least-near.ensures c.type_of.ensures.value c.cross-over.ensures.value c.sides-sides.ensures.value c.in_ok-extend.ensures.extended in
    let none : joined_in c.self.inside.table.cells.items c.self.inside.table.slots.items c.args.d ≡ None = subst (λ v. joined_in v.cells v.slots c.args.d ≡ None) (sym c.self.view_is) c.requires.not_joined in
    ap (slot_at c.extend.new.self.slots.items) c.packed-2.ensures ∙ near_empty c.self.inside.tessellation.now c.self.inside.origins.items c.self.inside.table c.extend.new.self r.kept c.args.d c.least-near.result c.cross-over.result r.room r.live r.near_is r.over_is r.extended none

pub link-requires-clause-second_empty : goal.link-requires-clause-second_empty
link-requires-clause-second_empty c =
    let r = ready c.args.self.now c.self.inside.tessellation.now c.self.inside.origins.items c.self.inside.table c.extend.new.self c.args.d c.least-near.result c.cross-over.result c.type_of.result c.sides-sides.result c.self.view_is c.self.invariant c.requires.live c.requires.room c.least-near.ensures c.type_of.ensures.value c.cross-over.ensures.value c.sides-sides.ensures.value c.in_ok-extend.ensures.extended in
    ap (slot_at c.extend.new.self.slots.items) (over_is_packed c) ∙ over_empty c.self.inside.tessellation.now c.self.inside.origins.items c.self.inside.table c.extend.new.self r.kept c.args.d c.least-near.result c.cross-over.result r.room r.live r.near_is r.over_is r.extended

-- what was linked, in the terms of the lemmas
record IsLinked (c : goal.After-link) : Type 0 where
  origins : c.push.new.self.items ≡ c.self.inside.origins.items ++ record { kind = c.cross-over.result.0; own = c.cross-over.result.1; across = pack c.least-near.result } ∷ []
  slot : slot_at c.link.new.self.slots.items (pack c.least-near.result) ≡ pack (length c.self.inside.origins.items, c.cross-over.result.1)
  others : (m : ℕ) → ¬ (m ≡ pack c.least-near.result) → ¬ (m ≡ pack (length c.self.inside.origins.items, c.cross-over.result.1)) → slot_at c.link.new.self.slots.items m ≡ slot_at c.extend.new.self.slots.items m
  cell : c.len-cell.result ≡ length c.self.inside.origins.items
  packed : c.len-cell.result * 64 + c.over.inside.residue ≡ pack (length c.self.inside.origins.items, c.cross-over.result.1)

linked : (c : goal.After-link) → IsLinked c
linked c =
    let over_packed : c.len-cell.result * 64 + c.over.inside.residue ≡ pack (length c.self.inside.origins.items, c.cross-over.result.1) = omega (arith, c.len-cell.ensures, c.self.inside.origins.ok.0, ap (λ d. d.1) c.over.view_is) in
    record {
      origins = c.in_ok-push.ensures.items ∙ (ap (λ (os : List Origin). os ++ record { kind = c.over.inside.kind; own = c.over.inside.residue; across = c.packed.result } ∷ []) c.reserve.ensures.items ∙ ap₂ (λ (p : ℕ × ℕ) (a : ℕ). c.self.inside.origins.items ++ record { kind = p.0; own = p.1; across = a } ∷ []) c.over.view_is c.packed.ensures);
      slot = ap (slot_at c.link.new.self.slots.items) (sym c.packed-2.ensures) ∙ (c.link.ensures.slot ∙ over_packed);
      others = λ m not_near not_over. c.link.ensures.others m (λ e. not_near (e ∙ c.packed-2.ensures)) (λ e. not_over (e ∙ over_packed));
      cell = omega (arith, c.len-cell.ensures, c.self.inside.origins.ok.0);
      packed = over_packed;
    }

sound_linked : (c : goal.After-link) → IsSound (atlas_of c.self.inside.tessellation.now (c.self.inside.origins.items ++ record { kind = c.cross-over.result.0; own = c.cross-over.result.1; across = pack c.least-near.result } ∷ [])) c.link.new.self.cells.items c.link.new.self.slots.items
sound_linked c =
    let r = ready c.args.self.now c.self.inside.tessellation.now c.self.inside.origins.items c.self.inside.table c.extend.new.self c.args.d c.least-near.result c.cross-over.result c.type_of.result c.sides-sides.result c.self.view_is c.self.invariant c.requires.live c.requires.room c.least-near.ensures c.type_of.ensures.value c.cross-over.ensures.value c.sides-sides.ensures.value c.in_ok-extend.ensures.extended in
    let h = linked c in
    let there = atlas_of c.self.inside.tessellation.now (c.self.inside.origins.items ++ record { kind = c.cross-over.result.0; own = c.cross-over.result.1; across = pack c.least-near.result } ∷ []) in
    let across = lies_across c.self.inside.tessellation.now c.self.inside.origins.items c.self.inside.table c.extend.new.self r.kept c.args.d c.least-near.result c.cross-over.result r.room r.live r.near_is r.over_is r.extended in
    let packed : LieAcross there (unpack c.packed-2.result) (unpack (c.len-cell.result * 64 + c.over.inside.residue)) = subst (λ a. LieAcross there (unpack a) (unpack (c.len-cell.result * 64 + c.over.inside.residue))) (sym c.packed-2.ensures) (subst (λ b. LieAcross there (unpack (pack c.least-near.result)) (unpack b)) (sym h.packed) across) in
    c.link.ensures.sound there (sound_after c.self.inside.tessellation.now c.self.inside.origins.items c.self.inside.table c.extend.new.self r.kept c.args.d c.least-near.result c.cross-over.result r.room r.live r.near_is r.over_is r.extended) packed

kept_after : (c : goal.After-link) → IsKept c.self.inside.tessellation.now (c.self.inside.origins.items ++ record { kind = c.cross-over.result.0; own = c.cross-over.result.1; across = pack c.least-near.result } ∷ []) c.link.new.self
kept_after c =
    let r = ready c.args.self.now c.self.inside.tessellation.now c.self.inside.origins.items c.self.inside.table c.extend.new.self c.args.d c.least-near.result c.cross-over.result c.type_of.result c.sides-sides.result c.self.view_is c.self.invariant c.requires.live c.requires.room c.least-near.ensures c.type_of.ensures.value c.cross-over.ensures.value c.sides-sides.ensures.value c.in_ok-extend.ensures.extended in
    let h = linked c in
    made_kept c.self.inside.tessellation.now c.self.inside.origins.items c.self.inside.table c.extend.new.self r.kept c.args.d c.least-near.result c.cross-over.result r.room r.live r.near_is r.over_is r.extended c.link.new.self c.link.ensures.cells c.link.ensures.moved h.slot h.others (sound_linked c)

pub invariant_of-self-2 : goal.invariant_of-self-2
invariant_of-self-2 c = subst (λ os. IsKept c.self.inside.tessellation.now os c.link.new.self) (sym (linked c).origins) (kept_after c)

pub returns-clause-made : goal.returns-clause-made
returns-clause-made c =
    let r = ready c.args.self.now c.self.inside.tessellation.now c.self.inside.origins.items c.self.inside.table c.extend.new.self c.args.d c.least-near.result c.cross-over.result c.type_of.result c.sides-sides.result c.self.view_is c.self.invariant c.requires.live c.requires.room c.least-near.ensures c.type_of.ensures.value c.cross-over.ensures.value c.sides-sides.ensures.value c.in_ok-extend.ensures.extended in
    let h = linked c in
    let kinds = c.self.inside.tessellation.now in
    let t2 = c.link.new.self in
    let made = made_is c.self.inside.tessellation.now c.self.inside.origins.items c.self.inside.table c.extend.new.self r.kept c.args.d c.least-near.result c.cross-over.result r.room r.live r.near_is r.over_is r.extended t2 c.link.ensures.cells c.link.ensures.moved h.slot h.others (sound_linked c) in
    let old : JoinTable = record { kinds = kinds; origins = c.self.inside.origins.items; cells = c.self.inside.table.cells.items; slots = c.self.inside.table.slots.items } in
    let new : JoinTable = record { kinds = kinds; origins = c.push.new.self.items; cells = t2.cells.items; slots = t2.slots.items } in
    let first : HasMade old new c.args.d (length c.self.inside.origins.items) = subst (λ (os : List Origin). HasMade old (record { kinds = kinds; origins = os; cells = t2.cells.items; slots = t2.slots.items }) c.args.d (length c.self.inside.origins.items)) (sym h.origins) made in
    subst (λ v. HasMade v new c.args.d c.len-cell.result) c.self.view_is (subst (HasMade old new c.args.d) (sym h.cell) first)

pub returns-clause-table : goal.returns-clause-table
returns-clause-table c = kept_table c.self.inside.tessellation.now c.push.new.self.items c.link.new.self (subst (λ os. IsKept c.self.inside.tessellation.now os c.link.new.self) (sym (linked c).origins) (kept_after c))
