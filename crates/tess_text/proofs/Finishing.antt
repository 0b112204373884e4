-- The end of a file: which tables are full, and which kinds they then are.
use Rattle.std.proofs.Common.{◌≡◌, ℕ, ◌<◌, Bool, false, List, [], ◌∷◌, length, get_or, map, refl, sym, inl, inr, ◌∙◌, ap, subst, arith, None, Some, All}
use Rattle.std.specs.Prelude.{Option, IsSome, IsTrue, ◌↔◌}
use Rattle.std.proofs.lemmas.Bool.{cases_eq}
use Rattle.std.proofs.lemmas.List.{length-map, get_or-map}
use Rattle.std.proofs.Math.ListN.{get_or-map as map_at}
use Rattle.std.proofs.lemmas.List.Elements.{All-from_get_or}
use Rattle.handed_kinds.specs.Handed.{HandedKind, no_handed, handed_at, IsSide as IsSideOf, partner_at, valence_at}
use Rattle.tess_text.specs.declared.entry.Entry.{Entry}
use Rattle.tess_text.specs.declared.version.Version.{Version}
use Rattle.tess_text.specs.Grammar.{entries, version_of, shapes, partner, valence, IsSide, IsGoodEnd}
use Rattle.tess_text.specs.Spelling.{Spells}
use Rattle.tess_text.specs.Tables.{Table, blank, table_at, table_of, IsFull, Hold, IsRead}
use Rattle.tess_text.proofs.Entering.{kinds_said, repeat_said}
use Rattle.tess_text.proofs.Reading.{begun_of, not_begun}

-- a list of which all has been said
some_at : {X : Type 0} (xs : List X) (i : ℕ) (d : X) → i < length xs → get_or (map (λ x. Some x) xs) i None ≡ Some (get_or xs i d)
some_at xs i d lt = get_or-map (λ x. Some x) xs i d None lt

abbrev kind_shape : HandedKind → ℕ × ℕ
kind_shape kind = (kind.sides, kind.repeat)

abbrev table_shape : Table → ℕ × ℕ
table_shape t = (t.sides, t.repeat)

shapes_map : (kinds : List HandedKind) → map kind_shape kinds ≡ map table_shape (map table_of kinds)
shapes_map [] = refl
shapes_map (kind ∷ kinds) = ap (λ (l : List (ℕ × ℕ)). (kind.sides, kind.repeat) ∷ l) (shapes_map kinds)

module _ (kinds : List HandedKind) (es : List Entry) (hold : Hold (map table_of kinds) es) where
  at : (k : ℕ) → table_at (map table_of kinds) k ≡ table_of (handed_at kinds k)
  at k = map_at table_of kinds k no_handed

  inside : (k : ℕ) → k < length kinds → k < length (map table_of kinds)
  inside k lt = omega (arith, length-map kinds table_of)

  partners : (k : ℕ) → k < length kinds → length (handed_at kinds k).partner ≡ (handed_at kinds k).repeat
  partners k lt =
      sym (length-map (handed_at kinds k).partner (λ p. Some p))
      ∙ ap (λ (t : Table). length t.partner) (sym (at k)) ∙ hold.partners k (inside k lt) ∙ ap (λ (t : Table). t.repeat) (at k)

  valences : (k : ℕ) → k < length kinds → length (handed_at kinds k).valence ≡ (handed_at kinds k).repeat
  valences k lt =
      sym (length-map (handed_at kinds k).valence (λ v. Some v))
      ∙ ap (λ (t : Table). length t.valence) (sym (at k)) ∙ hold.valences k (inside k lt) ∙ ap (λ (t : Table). t.repeat) (at k)

  joined : (d : ℕ × ℕ) → IsSideOf kinds d → partner es d ≡ Some (partner_at kinds d)
  joined d of_side_of =
      sym (hold.joined d)
      ∙ ap (λ (t : Table). get_or t.partner d.1 None) (at d.0)
      ∙ some_at (handed_at kinds d.0).partner d.1 (0, 0, false) (omega (arith, partners d.0 of_side_of.0, of_side_of.1))

  given : (d : ℕ × ℕ) → IsSideOf kinds d → valence es d ≡ Some (valence_at kinds d)
  given d of_side_of =
      sym (hold.given d)
      ∙ ap (λ (t : Table). get_or t.valence d.1 None) (at d.0)
      ∙ some_at (handed_at kinds d.0).valence d.1 0 (omega (arith, valences d.0 of_side_of.0, of_side_of.1))

  spelt : Spells es kinds
  spelt = record { shapes = shapes_map kinds ∙ hold.shapes; partners = partners; valences = valences; joined = joined; given = given }

  of_side : (d : ℕ × ℕ) → IsSide es d → IsSideOf kinds d
  of_side d side = (
    omega (arith, kinds_said (map table_of kinds) es hold, length-map kinds table_of, side.0),
    omega (arith, repeat_said (map table_of kinds) es d.0 hold, ap (λ (t : Table). t.repeat) (at d.0), side.1),
  )

-- the kinds of full tables
pub finished : (v : Version) (tables : List Table) (lines : List (List (List ℕ))) (kinds : List HandedKind) → IsRead (Some v) tables lines → 0 < length tables → map table_of kinds ≡ tables → IsGoodEnd lines × (v ≡ version_of lines) × Spells (entries lines) kinds
finished v tables lines kinds read some is =
    let hold : Hold (map table_of kinds) (entries lines) = subst (λ (ts : List Table). Hold ts (entries lines)) (sym is) read.hold in
    let begun = begun_of lines v read.begun in (
      record {
        begun = begun.0;
        kinds = omega (arith, kinds_said tables (entries lines) read.hold);
        joins = λ d side. subst (λ (o : Option (ℕ × ℕ × Bool)). IsSome o) (sym (joined kinds (entries lines) hold d (of_side kinds (entries lines) hold d side))) refl;
        corners = λ d side. subst (λ (o : Option ℕ). IsSome o) (sym (given kinds (entries lines) hold d (of_side kinds (entries lines) hold d side))) refl;
      },
      sym begun.1,
      spelt kinds (entries lines) hold,
    )

-- where the end is good, nothing is missing in the tables
full_at : (tables : List Table) (lines : List (List (List ℕ))) → Hold tables (entries lines) → IsGoodEnd lines → (k : ℕ) → k < length tables → IsFull (table_at tables k)
full_at tables lines hold end k lt =
    let es = entries lines in
    let kind : k < length (shapes es) = omega (arith, kinds_said tables es hold) in
    let repeat = repeat_said tables es k hold in
    record {
      partners = All-from_get_or (λ p. IsSome p) (table_at tables k).partner None (λ s small.
          subst (λ (o : Option (ℕ × ℕ × Bool)). IsSome o) (sym (hold.joined (k, s))) (end.joins (k, s) (kind, omega (arith, repeat, hold.partners k lt, small))));
      valences = All-from_get_or (λ v. IsSome v) (table_at tables k).valence None (λ s small.
          subst (λ (o : Option ℕ). IsSome o) (sym (hold.given (k, s))) (end.corners (k, s) (kind, omega (arith, repeat, hold.valences k lt, small))));
    }

pub full : (tables : List Table) (lines : List (List (List ℕ))) → Hold tables (entries lines) → IsGoodEnd lines → All IsFull tables
full tables lines hold end = All-from_get_or IsFull tables (blank 0 0) (full_at tables lines hold end)

-- a test for nothing that fails
pub some_from : (n : ℕ) (r : Bool) → IsTrue r ↔ (n ≡ 0) → r ≡ false → 0 < n
some_from n r test fails = elim (cases_eq n 0) [
  | inl none ↦ absurd (cc (test.1 none, fails))
  | inr some ↦ omega arith
]

-- the same where the version that was read is told by an equation
pub finished_read : (version : Option Version) (v : Version) (tables : List Table) (lines : List (List (List ℕ))) (kinds : List HandedKind) → version ≡ Some v → IsRead version tables lines → 0 < length tables → map table_of kinds ≡ tables → IsGoodEnd lines × (v ≡ version_of lines) × Spells (entries lines) kinds
finished_read version v tables lines kinds told read some is = finished v tables lines kinds (subst (λ (o : Option Version). IsRead o tables lines) told read) some is

-- where no line with words has come, the end is bad
pub not_ended : (version : Option Version) (tables : List Table) (lines : List (List (List ℕ))) → version ≡ None → IsRead version tables lines → IsGoodEnd lines → ⊥
not_ended version tables lines none read end = absurd (cc (not_begun lines (sym none ∙ read.begun), end.begun))
