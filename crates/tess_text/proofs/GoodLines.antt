-- The lines of good entries are good.
use Rattle.std.proofs.Common.{◌≡◌, ℕ, suc, ◌<◌, ◌≤◌, inl, inr, Bool, true, ◌||◌, List, [], ◌∷◌, ◌++◌, length, take, get_or, map, refl, sym, ◌∙◌, ap, subst, arith, append_assoc, Some}
use Rattle.std.specs.Prelude.{Option}
use Rattle.std.specs.List.{cons_option}
use Rattle.std.proofs.lemmas.List.{append-nil, length-append, take_at}
use Rattle.std.proofs.Math.Seq.{get_or-append_seam}
use Rattle.std.proofs.lemmas.Bool.{cases_lt}
use Rattle.tess_text.specs.declared.entry.Entry.{Entry}
use Rattle.tess_text.specs.FileLines.{is_nonempty}
use Rattle.tess_text.specs.declared.version.Version.{Version}
use Rattle.tess_text.specs.declared.version.Version.TheVariants.{One}
use Rattle.tess_text.specs.Grammar.{entry, entries, has_begun, head, version_of, IsAllowed, IsGoodEntry, IsGoodLine, IsGoodEnd, IsGoodAt}
use Rattle.tess_text.proofs.Reading.{begun-push, entries_some, version_kept}
use Rattle.tess_text.proofs.Spaced.{AllSmall, allowed_of, entry_words, entry_of_words}

-- each entry is good after those done and those before it
abbrev pub AllGood : List Entry → List Entry → Type 0
AllGood done [] = Unit {0}
AllGood done (e ∷ es) = IsGoodEntry done e × AllGood (done ++ e ∷ []) es

pub good_append : (done es fs : List Entry) → AllGood done es → AllGood (done ++ es) fs → AllGood done (es ++ fs)
good_append done [] fs a b = subst (λ (l : List Entry). AllGood l fs) (append-nil done) b
good_append done (e ∷ es) fs a b = (a.0, good_append (done ++ e ∷ []) es fs a.1 (subst (λ (l : List Entry). AllGood l fs) (sym (append_assoc done (e ∷ []) es)) b))

-- the line behind some lines
line_at : (lines before more : List (List (List ℕ))) (line : List (List ℕ)) → lines ≡ before ++ line ∷ more → IsGoodLine before line → IsGoodAt lines (length before)
line_at lines before more line is good = record {
  line = λ lt.
      subst (λ (l : List (List (List ℕ))). IsGoodLine (take (length before) l) (get_or l (length before) [])) (sym is)
      (subst (λ (l : List (List (List ℕ))). IsGoodLine l (get_or (before ++ line ∷ more) (length before) [])) (sym (take_at before (line ∷ more) (length before) refl))
      (subst (λ (l : List (List ℕ)). IsGoodLine before l) (sym (get_or-append_seam before line more [])) good));
  end = λ last. absurd (omega (arith, ap (λ (l : List (List (List ℕ))). length l) is, length-append before (line ∷ more)));
}

good_until : (lines : List (List (List ℕ))) (n : ℕ) → ((i : ℕ) → i < n → IsGoodAt lines i) → IsGoodAt lines n → (i : ℕ) → i < suc n → IsGoodAt lines i
good_until lines n earlier here i lt = elim (cases_lt i n) [
  | inl before ↦ earlier i before
  | inr last ↦ let e : n ≡ i = omega arith in subst (λ (j : ℕ). IsGoodAt lines j) e here
]

good_from : (lines before : List (List (List ℕ))) (es : List Entry) → lines ≡ before ++ map entry_words es → ((i : ℕ) → i < length before → IsGoodAt lines i) → has_begun before ≡ true → version_of before ≡ One → AllGood (entries before) es → AllSmall es → (i : ℕ) → i < length lines → IsGoodAt lines i
good_from lines before [] is earlier begun one good small i lt = earlier i (omega (arith, ap (λ (l : List (List (List ℕ))). length l) is, length-append before []))
good_from lines before (e ∷ es) is earlier begun one good small i lt =
    let line = entry_words e in
    let says : entry line ≡ Some e = entry_of_words e small.0 in
    let here : IsGoodAt lines (length before) = line_at lines before (map entry_words es) line is (record { first = λ none some. absurd (cc (none, begun)); later = λ yes some. (e, says, good.0, subst (λ (v : Version). IsAllowed v e) (sym one) (allowed_of e small.0)) }) in
    let longer : length (before ++ line ∷ []) ≡ suc (length before) = omega (arith, length-append before (line ∷ [])) in
    let begun_next : has_begun (before ++ line ∷ []) ≡ true = begun-push before line ∙ ap (λ (b : Bool). b || is_nonempty line) begun in
    let good_next : AllGood (entries (before ++ line ∷ [])) es = subst (λ (l : List Entry). AllGood l es) (sym (entries_some before line e says)) good.1 in
    good_from lines (before ++ line ∷ []) es (is ∙ sym (append_assoc before (line ∷ []) (map entry_words es)))
    (λ j small_j. good_until lines (length before) earlier here j (omega (arith, longer))) begun_next (version_kept before line begun ∙ one) good_next small.1 i lt

-- what the lines of entries say
pub entries_said : (es : List Entry) → AllSmall es → entries (head One ∷ map entry_words es) ≡ es
entries_said [] small = refl
entries_said (e ∷ es) small = ap (λ (o : Option Entry). cons_option o (entries (map entry_words es))) (entry_of_words e small.0) ∙ ap (λ (l : List Entry). e ∷ l) (entries_said es small.1)

-- behind the head
pub good_lines : (es : List Entry) → AllSmall es → AllGood [] es → IsGoodEnd (head One ∷ map entry_words es) → (i : ℕ) → i ≤ length (head One ∷ map entry_words es) → IsGoodAt (head One ∷ map entry_words es) i
good_lines es small good end i le =
    let lines = head One ∷ map entry_words es in
    let first : IsGoodAt lines 0 = line_at lines [] (map entry_words es) (head One) refl (record { first = λ none some. (One, refl); later = λ yes some. absurd (cc) }) in
    elim (cases_lt i (length lines)) [
      | inl lt ↦ good_from lines (head One ∷ []) es refl (λ j small_j. let e : 0 ≡ j = omega arith in subst (λ (n : ℕ). IsGoodAt lines n) e first) refl refl good small i lt
      | inr last ↦ record { line = λ lt. absurd (omega arith); end = λ is. end }
    ]
