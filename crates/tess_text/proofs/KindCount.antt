-- A file with no bad line has at most 256 kinds, and 128 in version 2: a kind line is good only with the number of kinds before it, which is at most 255, or 127.
use Rattle.std.proofs.Common.{◌≡◌, ◌≢◌, ℕ, zero, suc, ◌<◌, ◌≤◌, inl, inr, Bool, true, false, List, [], ◌∷◌, ◌++◌, length, take, get_or, map, refl, sym, ◌∙◌, ap, subst, arith, None, Some}
use Rattle.std.specs.Prelude.{Option, Result, IfErr, codes}
use Rattle.std.specs.declared.result.Result.TheVariants.{Ok, Err}
use Rattle.std.specs.Str.{bytes_eq}
use Rattle.std.proofs.lemmas.List.{length-append, length-map, take_all}
use Rattle.std.proofs.Math.Seq.{take-suc}
use Rattle.std.proofs.lemmas.Bool.{cases_Bool}
use Rattle.handed_kinds.specs.Handed.{HandedKind}
use Rattle.tile_model.specs.declared.fault.KindFault.{KindFault}
use Rattle.tile_model.specs.declared.fault.KindFault.TheVariants.{Count}
use Rattle.tess_text.specs.declared.fault.TessFault.{TessFault}
use Rattle.tess_text.specs.declared.fault.TessFault.TheVariants.{Line, Kinds, Memory}
use Rattle.tess_text.specs.declared.entry.Entry.{Entry}
use Rattle.tess_text.specs.declared.entry.Entry.TheVariants.{Kind, Join, Corner}
use Rattle.tess_text.specs.FileLines.{word_lines}
use Rattle.tess_text.specs.Grammar.{small_number, kind_entry, join_entry, corner_entry, entry, entries, shapes, has_begun, version_of, IsAllowed, IsGoodEntry, IsGoodLine, IsGoodAt}
use Rattle.tess_text.specs.declared.version.Version.{Version}
use Rattle.tess_text.specs.declared.version.Version.TheVariants.{One, Two}
use Rattle.tess_text.specs.Spelling.{plain, Says, IsFaultIn, IsRefused, IsFaultOf}
use Rattle.tess_text.proofs.Numbers.{word_within}
use Rattle.tess_text.proofs.Reading.{entries_some, entries_none, version_blank, version_kept, head_entry}
use Rattle.tess_text.proofs.Entering.{shapes-push}

-- a number is at most 255
first_small : (fields : List (List ℕ)) (n : ℕ) (more : List (Option ℕ)) → map small_number fields ≡ Some n ∷ more → n ≤ 255
first_small [] n more is = absurd (cc)
first_small (word ∷ fields) n more is = word_within word n (cc)

-- so the number of a kind is, and no other line is a kind line
kind_fields : (ns : List (Option ℕ)) (k sides repeat : ℕ) → ((n : ℕ) (more : List (Option ℕ)) → ns ≡ Some n ∷ more → n ≤ 255) → kind_entry ns ≡ Some (Kind k sides repeat) → k ≤ 255
kind_fields [] k sides repeat small is = absurd (cc)
kind_fields (None ∷ ns) k sides repeat small is = absurd (cc)
kind_fields (Some a ∷ []) k sides repeat small is = absurd (cc)
kind_fields (Some a ∷ None ∷ ns) k sides repeat small is = absurd (cc)
kind_fields (Some a ∷ Some b ∷ []) k sides repeat small is = absurd (cc)
kind_fields (Some a ∷ Some b ∷ None ∷ ns) k sides repeat small is = absurd (cc)
kind_fields (Some a ∷ Some b ∷ Some c ∷ []) k sides repeat small is = let e : a ≡ k = cc in omega (arith, e, small a (Some b ∷ Some c ∷ []) refl)
kind_fields (Some a ∷ Some b ∷ Some c ∷ d ∷ ns) k sides repeat small is = absurd (cc)

join_fields : (mark : Bool) (ns : List (Option ℕ)) (k sides repeat : ℕ) → join_entry mark ns ≡ Some (Kind k sides repeat) → ⊥
join_fields mark [] k sides repeat is = absurd (cc)
join_fields mark (None ∷ ns) k sides repeat is = absurd (cc)
join_fields mark (Some a ∷ []) k sides repeat is = absurd (cc)
join_fields mark (Some a ∷ None ∷ ns) k sides repeat is = absurd (cc)
join_fields mark (Some a ∷ Some b ∷ []) k sides repeat is = absurd (cc)
join_fields mark (Some a ∷ Some b ∷ None ∷ ns) k sides repeat is = absurd (cc)
join_fields mark (Some a ∷ Some b ∷ Some c ∷ []) k sides repeat is = absurd (cc)
join_fields mark (Some a ∷ Some b ∷ Some c ∷ None ∷ ns) k sides repeat is = absurd (cc)
join_fields mark (Some a ∷ Some b ∷ Some c ∷ Some d ∷ []) k sides repeat is = absurd (cc)
join_fields mark (Some a ∷ Some b ∷ Some c ∷ Some d ∷ e ∷ ns) k sides repeat is = absurd (cc)

corner_fields : (ns : List (Option ℕ)) (k sides repeat : ℕ) → corner_entry ns ≡ Some (Kind k sides repeat) → ⊥
corner_fields [] k sides repeat is = absurd (cc)
corner_fields (None ∷ ns) k sides repeat is = absurd (cc)
corner_fields (Some a ∷ []) k sides repeat is = absurd (cc)
corner_fields (Some a ∷ None ∷ ns) k sides repeat is = absurd (cc)
corner_fields (Some a ∷ Some b ∷ []) k sides repeat is = absurd (cc)
corner_fields (Some a ∷ Some b ∷ None ∷ ns) k sides repeat is = absurd (cc)
corner_fields (Some a ∷ Some b ∷ Some c ∷ []) k sides repeat is = absurd (cc)
corner_fields (Some a ∷ Some b ∷ Some c ∷ d ∷ ns) k sides repeat is = absurd (cc)

kind_small : (line : List (List ℕ)) (k sides repeat : ℕ) → entry line ≡ Some (Kind k sides repeat) → k ≤ 255
kind_small [] k sides repeat is = absurd (cc)
kind_small (word ∷ fields) k sides repeat is = elim (cases_Bool (bytes_eq word (codes "kind"))) [
  | inl kind ↦ kind_fields (map small_number fields) k sides repeat (first_small fields) (rw kind at is)
  | inr no_kind ↦ elim (cases_Bool (bytes_eq word (codes "join"))) [
    | inl join ↦ absurd (join_fields false (map small_number fields) k sides repeat (rw (no_kind, join) at is))
    | inr no_join ↦ elim (cases_Bool (bytes_eq word (codes "mirror"))) [
      | inl mirror ↦ absurd (join_fields true (map small_number fields) k sides repeat (rw (no_kind, no_join, mirror) at is))
      | inr no_mirror ↦ elim (cases_Bool (bytes_eq word (codes "corner"))) [
        | inl corner ↦ absurd (corner_fields (map small_number fields) k sides repeat (rw (no_kind, no_join, no_mirror, corner) at is))
        | inr no_corner ↦ let no : None ≡ Some (Kind k sides repeat) = rw (no_kind, no_join, no_mirror, no_corner) at is in absurd (cc)
      ]
    ]
  ]
]

-- the most kinds of a file of a version
abbrev most : Version → ℕ
most One = 256
most Two = 128

kind_few : (v : Version) (k sides repeat : ℕ) → IsAllowed v (Kind k sides repeat) → k ≤ 255 → k < most v
kind_few One k sides repeat allowed small = omega arith
kind_few Two k sides repeat allowed small = omega (arith, allowed)

some_most : (v : Version) → 0 ≤ most v
some_most One = omega arith
some_most Two = omega arith

-- one good entry more
with_entry : (n : ℕ) (es : List Entry) (e : Entry) → ((k sides repeat : ℕ) → e ≡ Kind k sides repeat → k < n) → IsGoodEntry es e → length (shapes es) ≤ n → length (shapes (es ++ e ∷ [])) ≤ n
with_entry n es (Kind k sides repeat) small good few = omega (arith, ap (λ (l : List (ℕ × ℕ)). length l) (shapes-push es (Kind k sides repeat)), length-append (shapes es) ((sides, repeat) ∷ []), good, small k sides repeat refl)
with_entry n es (Join k s k2 s2 mark) small good few = omega (arith, ap (λ (l : List (ℕ × ℕ)). length l) (shapes-push es (Join k s k2 s2 mark)), length-append (shapes es) [], few)
with_entry n es (Corner k s v) small good few = omega (arith, ap (λ (l : List (ℕ × ℕ)). length l) (shapes-push es (Corner k s v)), length-append (shapes es) [], few)

-- the number of kinds that lines tell is at most that of their version
abbrev AreFew : List (List (List ℕ)) → Type 0
AreFew lines = length (shapes (entries lines)) ≤ most (version_of lines)

-- lines without words say nothing
nothing_said : (before : List (List (List ℕ))) → has_begun before ≡ false → entries before ≡ []
nothing_said [] none = refl
nothing_said ([] ∷ before) none = nothing_said before none
nothing_said ((word ∷ fields) ∷ before) none = absurd (cc none)

-- and so it stays with one good line more
blank_few : (before : List (List (List ℕ))) → AreFew before → AreFew (before ++ [] ∷ [])
blank_few before few = omega (arith, ap (λ (es : List Entry). length (shapes es)) (entries_none before [] refl), ap most (version_blank before), few)

first_few : (before : List (List (List ℕ))) (line : List (List ℕ)) → has_begun before ≡ false → entry line ≡ None → AreFew (before ++ line ∷ [])
first_few before line none silent = omega (arith, ap (λ (es : List Entry). length (shapes es)) (entries_none before line silent ∙ nothing_said before none), some_most (version_of (before ++ line ∷ [])))

with_line : (before : List (List (List ℕ))) (line : List (List ℕ)) → IsGoodLine before line → AreFew before → AreFew (before ++ line ∷ [])
with_line before [] good few = blank_few before few
with_line before (word ∷ fields) good few = elim (cases_Bool (has_begun before)) [
  | inl begun ↦
      let line = word ∷ fields in
      let v = version_of before in
      let told = good.later begun (omega arith) in
      let more : length (shapes (entries before ++ told.0 ∷ [])) ≤ most v =
      with_entry (most v) (entries before) told.0
      (λ k sides repeat is. kind_few v k sides repeat (subst (λ (e : Entry). IsAllowed v e) is told.3) (kind_small line k sides repeat (told.1 ∙ ap (λ (e : Entry). Some e) is))) told.2 few in
      omega (arith, ap (λ (es : List Entry). length (shapes es)) (entries_some before line told.0 told.1), ap most (version_kept before line begun), more)
  | inr none ↦
      let head_of = good.first none (omega arith) in
      first_few before (word ∷ fields) none (ap (λ (l : List (List ℕ)). entry l) head_of.1 ∙ head_entry head_of.0)
]

-- the first n lines
few_until : (lines : List (List (List ℕ))) (n : ℕ) → n ≤ length lines → ((i : ℕ) → i < n → IsGoodAt lines i) → AreFew (take n lines)
few_until lines zero within good = omega arith
few_until lines (suc n) within good =
    subst (λ (l : List (List (List ℕ))). AreFew l) (sym (take-suc lines n [] (omega arith)))
    (with_line (take n lines) (get_or lines n []) ((good n (omega arith)).line (omega arith)) (few_until lines n (omega arith) (λ i lt. good i (omega arith))))

-- a file says 1 to 256 kinds in version 1, and 1 to 128 in version 2
count_said : (bytes : List ℕ) (version : Version) (said : List HandedKind) → Says bytes version said → (1 ≤ length said) × (length said ≤ most version)
count_said bytes version said says =
    let lines = word_lines bytes in
    let end = (says.grammar (length lines) (omega arith)).end refl in
    let few : AreFew lines = subst (λ (l : List (List (List ℕ))). AreFew l) (take_all (length lines) lines (omega arith)) (few_until lines (length lines) (omega arith) (λ i lt. says.grammar i (omega arith))) in
    let shape : HandedKind → ℕ × ℕ = λ (kind : HandedKind). (kind.sides, kind.repeat) in
    let same : length said ≡ length (shapes (entries lines)) = sym (length-map said shape) ∙ ap (λ (l : List (ℕ × ℕ)). length l) says.spells.shapes in
    (omega (arith, same, end.kinds), omega (arith, same, few, ap most says.head))

-- so no file has a fault of that number
no_count_in : (version : Version) (said : List HandedKind) → (1 ≤ length said) × (length said ≤ most version) → IsFaultIn version said Count → ⊥
no_count_in One said count fault = fault (omega (arith, length-map said plain, count.0), omega (arith, length-map said plain, count.1))
no_count_in Two said count fault = fault count

pub no_count : (bytes : List ℕ) → IsRefused bytes Count → ⊥
no_count bytes refused = no_count_in refused.version refused.said (count_said bytes refused.version refused.said refused.says) refused.refused

pub not_count : (bytes : List ℕ) (e : TessFault) → IsFaultOf bytes e → e ≢ Kinds Count
not_count bytes (Line n) cause is = absurd (cc)
not_count bytes (Kinds fault) cause is =
    let same : fault ≡ Count = cc in
    no_count bytes (subst (λ (f : KindFault). IsRefused bytes f) same cause)
not_count bytes Memory cause is = absurd (cc)

-- the same of an answer that is a fault with its cause
pub err_not_count : {T : Type 0} (bytes : List ℕ) (r : Result T TessFault) → IfErr r (IsFaultOf bytes) → IfErr r (λ e. e ≢ Kinds Count)
err_not_count bytes (Ok x) cause = tt
err_not_count bytes (Err e) cause = not_count bytes e cause
